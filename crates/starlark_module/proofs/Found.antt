-- The answer for a file, from the parser's answer and the test of its tree.
use Rattle.std.proofs.Common.{◌≡◌, List, [], map, Option, Some, Result, Ok, Err, IfOk, refl, sym, ap, subst, ◌∙◌}
use Rattle.std.specs.Result.{IsErrAnd}
use Rattle.starlark_spec.specs.Faults.{Fault}
use Rattle.starlark_checks.specs.Faults.{refusal_of}
use Rattle.starlark_checks.specs.Refusals.{out_of_memory}
use Rattle.starlark_checks.specs.Refusals as checks
use Rattle.starlark_module.specs.declared.comments.comment_keeper.CommentKeeper.{CommentKeeper}
use Rattle.starlark_spec.specs.Targets.{map_ok}
use Rattle.starlark_lexer.specs.Lexer.{CodeLexeme, lexeme_of}
use Rattle.starlark_lexer.specs.Places.{File}
use Rattle.starlark_lexer.specs.Tokens.{Text, Lexeme, LexerFault, span_of}
use Rattle.starlark_lexer.specs.declared.dialect.Dialect.{Dialect}
use Rattle.starlark_module.specs.Comments.Building.{HasRead, suppressions_in}
use Rattle.starlark_module.specs.Comments.Suppressions.{suppressions}
use Rattle.starlark_module.proofs.Tree.{IsRefusal, faulty, stays, valid, runs_out}
use Rattle.starlark_checks.specs.Faults.{Names}
use Rattle.starlark_module.specs.Modules.{AnswersCall}
use Rattle.starlark_module.specs.ConsumedLexemes.{AnswersCallsUnder}
use Rattle.starlark_module.specs.KeeperAnswers.{AnswersThrough}
use Rattle.starlark_module.specs.declared.module.AstModule.{AstModule}
use Rattle.starlark_tree.specs.Views.{statement_of}
use Rattle.starlark_validate.specs.TestResults.{Tested, faultless, at_fault, no_memory}
use Rattle.starlark_spec.specs.Answers.{Answer}
use Rattle.starlark_spec.specs.Answers.Answer.{module_of, memory, lexer, unexpected_token, unexpected_end, broken_rule}
use Rattle.starlark_validate.specs.Faults.{faults_in, first}

no_error : {A E : Type 0} {x : A} {e : E} → ◌≡◌ {A = Result A E} (Ok x) (Err e) → ⊥
no_error is = cc

same_error : {A E : Type 0} {x y : E} → ◌≡◌ {A = Result A E} (Err x) (Err y) → x ≡ y
same_error is = cc

-- what an error names is a refusal
is_refusal : (file : File) (answer : Answer) (x : checks.Refusal) → Names file answer x → IsRefusal answer
is_refusal file (module_of s) x names = names
is_refusal file memory x names = tt
is_refusal file (lexer fault) x names = tt
is_refusal file (unexpected_token span) x names = tt
is_refusal file (unexpected_end span) x names = tt
is_refusal file (broken_rule fault) x names = tt

-- what `?` passes on refuses what is made of a value too
pub handed_on : {A : Type 0} {file : File} {faults : List Fault} (r : Result A checks.Refusal) {e : checks.Refusal} → IsErrAnd r (λ x. x ≡ e)
    → Tested file faults (Err e) → Tested file faults (map_ok (λ _. tt) r)
handed_on (Ok v) h answer = absurd h
handed_on {file = file} {faults = faults} (Err x) h answer = subst (λ y. Tested file faults (Err y)) (sym h) answer

-- what a returned module says
pub told : {A E X : Type 0} (tells : A → X) (r : Result A E) (m : A) → IfOk r (λ n. n ≡ m) → IfOk r (λ n. tells n ≡ tells m)
told tells (Ok n) m same = ap tells same
told tells (Err e) m same = tt

module _ {S : Type 0} (steps : S → Option CodeLexeme → S → Type 0) (dialect : Dialect) (s t : S) (file : File) where
  -- the state of an iterator is known by another name
  moved : (b e : S) (r : Result AstModule checks.Refusal) → b ≡ s → e ≡ t → AnswersCall steps dialect b file r e → AnswersCall steps dialect s file r t
  moved b e r begins ends a = subst (λ y. AnswersCall steps dialect s file r y) ends (subst (λ x. AnswersCall steps dialect x file r e) begins a)

  -- an error that names an answer
  says_error : {b e : S} (answer : Answer) (x : checks.Refusal) → AnswersCallsUnder steps dialect b answer e → Names file answer x
      → AnswersCall steps dialect b file (Err x) e
  says_error (module_of m) x from names = absurd names
  says_error memory x from names = record { answer = memory; from = from; says = names }
  says_error (lexer fault) x from names = record { answer = lexer fault; from = from; says = names }
  says_error (unexpected_token span) x from names = record { answer = unexpected_token span; from = from; says = names }
  says_error (unexpected_end span) x from names = record { answer = unexpected_end span; from = from; says = names }
  says_error (broken_rule fault) x from names = record { answer = broken_rule fault; from = from; says = names }

  module _ (old new : CommentKeeper S) (begins : old.lexemes.now ≡ s) (ends : new.lexemes.now ≡ t) where
    here : (r : Result AstModule checks.Refusal) → AnswersCall steps dialect old.lexemes.now file r new.lexemes.now → AnswersCall steps dialect s file r t
    here r a = moved old.lexemes.now new.lexemes.now r begins ends a

    -- the parser refuses
    pub refuses : (answer : Answer) (x : checks.Refusal) → AnswersThrough steps dialect.enable_types old answer new
        → Names file answer x → AnswersCall steps dialect s file (Err x) t
    refuses answer x through names =
        here (Err x) (says_error answer x (stays steps dialect old.lexemes.now new.lexemes.now answer (is_refusal file answer x names) through.from) names)

    -- memory ran out
    wants : (x : Answer) → AnswersThrough steps dialect.enable_types old x new → AnswersCall steps dialect s file (Err out_of_memory) t
    wants x through = here (Err out_of_memory) (says_error memory out_of_memory (runs_out steps dialect old.lexemes.now new.lexemes.now x through.from) refl)

    module _ (m : AstModule) (through : AnswersThrough steps dialect.enable_types old (module_of (statement_of m.statement)) new) where
      -- the tree has no fault, and the module has the comments that were kept
      found : faults_in dialect (statement_of m.statement) ≡ [] → m.codemap ≡ file → new.codemap.now ≡ file → m.comments ≡ new.comments
          → ((text : Text) (lexemes : List (Result Lexeme LexerFault)) → HasRead text lexemes new.suppressions → suppressions_in m.suppressions
          ≡ suppressions text lexemes) → AnswersCall steps dialect s file (Ok m) t
      unfolding valid
      found none codemap same_file comments built =
          let kept = through.kept (statement_of m.statement) refl in
          let lexemes = map lexeme_of through.from.calls in
          here (Ok m)
          (record {
            answer = module_of (statement_of m.statement);
            from = valid steps dialect old.lexemes.now new.lexemes.now (statement_of m.statement) through.from none;
            says = record {
              codemap = codemap;
              statement = refl;
              comments = ap (λ c. map span_of c.items) comments ∙ kept.spans_are;
              suppressions_are = built new.codemap.now.text lexemes kept.read ∙ ap (λ f. suppressions f.text lexemes) same_file;
            };
          })

      -- the tree has a fault
      fails : (f : Fault) → first (faults_in dialect (statement_of m.statement)) ≡ Some f → AnswersCall steps dialect s file (Err (refusal_of file f)) t
      fails f is =
          here (Err (refusal_of file f)) (says_error (broken_rule f) (refusal_of file f)
          (faulty steps dialect old.lexemes.now new.lexemes.now (statement_of m.statement) through.from f is) refl)

    -- the tree of a module is tested
    pub tested_so : (r : Result AstModule checks.Refusal) (m : AstModule) → IfOk r (λ n. n ≡ m) → AnswersThrough steps dialect.enable_types old
        (module_of (statement_of m.statement)) new
        → Tested file (faults_in dialect (statement_of m.statement)) (map_ok (λ _. tt) r) → m.codemap ≡ file → new.codemap.now ≡ file
        → m.comments ≡ new.comments
        → ((text : Text) (lexemes : List (Result Lexeme LexerFault)) → HasRead text lexemes new.suppressions → suppressions_in m.suppressions
        ≡ suppressions text lexemes) → AnswersCall steps dialect s file r t
    tested_so (Ok n) m same through (faultless is none) codemap same_file comments built =
        subst (λ x. AnswersCall steps dialect s file (Ok x) t) (sym same) (found m through none codemap same_file comments built)
    tested_so (Ok n) m same through (at_fault f is names) codemap same_file comments built = absurd (no_error is)
    tested_so (Ok n) m same through (no_memory is) codemap same_file comments built = absurd (no_error is)
    tested_so (Err e) m same through (faultless is none) codemap same_file comments built = absurd (no_error (sym is))
    tested_so (Err e) m same through (at_fault f is names) codemap same_file comments built = subst (λ x. AnswersCall steps dialect s file (Err x) t)
        (sym (same_error is)) (fails m through f names)
    tested_so (Err e) m same through (no_memory is) codemap same_file comments built =
        subst (λ x. AnswersCall steps dialect s file (Err x) t) (sym (same_error is)) (wants (module_of (statement_of m.statement)) through)
