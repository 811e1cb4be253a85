-- Answers through a keeper of comments.
use Rattle.std.proofs.Common.{◌≡◌, List, [], ◌∷◌, ◌++◌, map, Bool, true, false, Option, Some, None, Result, Ok, Err, if◌then◌else◌, inr, refl, sym, ap, subst}
use Rattle.std.proofs.Common.{◌∙◌}
use Rattle.std.specs.Bool.{⊤}
use Rattle.std.specs.Iterator.{YieldsThen}
use Rattle.starlark_lexer.specs.Lexer.{CodeLexeme, lexeme_of}
use Rattle.starlark_lexer.specs.Tokens.{Lexeme, LexerFault, fault_of}
use Rattle.starlark_lexer.specs.declared.dialect.DialectTypes.{DialectTypes}
use Rattle.starlark_lexer.specs.declared.token.LexerError.{LexerError}
use Rattle.starlark_lexer.specs.declared.token.LexerErrorKind.TheVariants as kinds
use Rattle.starlark_spec.specs.Items.{Items, Ending, fails, out_of_memory, items, ending_in, ending_of}
use Rattle.starlark_spec.specs.Answers.{Answer}
use Rattle.starlark_spec.specs.Answers.Answer.{module_of, memory, lexer, unexpected_token, unexpected_end, broken_rule}
use Rattle.starlark_parse_cursor.specs.Runs.{HasNoError, lexemes_with}
use Rattle.starlark_module.specs.Comments.Keeping.{HasKept, Gives, IsGivenFor, as_it_came, in_its_place}
use Rattle.starlark_module.specs.declared.comments.comment_keeper.CommentKeeper.{CommentKeeper}
use Rattle.starlark_module.proofs.CommentsLemmas.Passed.{taken}
use Rattle.starlark_parse.specs.Stmt.Runs.{AnswersFrom, AnswersAfter, IsLastItem, tokens_of}
use Rattle.starlark_module.specs.KeeperAnswers.{AnswersThrough}

abbrev Lexemes : Type 0
Lexemes = List (Result Lexeme LexerFault)

ending_after : (b : Bool) (l : Lexeme) (rest : Items) → (if b then rest else record { tokens = l ∷ rest.tokens; ending = rest.ending }).ending ≡ rest.ending
ending_after true l rest = refl
ending_after false l rest = refl

-- the items end in the first error
ending_in_error : (calls : List CodeLexeme) (e : LexerError) (more : Lexemes) → HasNoError calls
    → (items (map lexeme_of calls ++ lexeme_of (Err e) ∷ more)).ending ≡ ending_of (fault_of e)
ending_in_error [] e more none = refl
ending_in_error (Ok x ∷ xs) e more none = ending_after _ _ _ ∙ ending_in_error xs e more none
ending_in_error (Err f ∷ xs) e more none = absurd none

no_memory : (e : LexerError) → e.kind ≡ kinds.Memory → ending_of (fault_of e) ≡ out_of_memory
no_memory e is = ap (λ k. ending_in k (fault_of e)) is

abbrev Fails : Ending → Type 0
Fails (fails fault) = ⊤
Fails _ = ⊥

-- out of memory is an answer whatever the items are
pub for_memory : (before : List Lexeme) (types : DialectTypes) (x : Items) → AnswersAfter before types x memory
for_memory before types x = record { answers = record { right = tt; found = λ d is keeps. inr refl }; stands = tt }

abbrev IsSome : Option CodeLexeme → Type 0
IsSome None = ⊥
IsSome (Some x) = ⊤

-- out of memory is not the last item of another answer
no_other : (types : DialectTypes) (calls : List CodeLexeme) (e : LexerError) (answer : Answer) → e.kind ≡ kinds.Memory → HasNoError calls
    → IsLastItem (Some (Err e)) answer
    → ((more : Lexemes) → AnswersAfter (tokens_of calls) types (items (lexemes_with calls (Some (Err e)) more)) answer) → answer ≡ memory
no_other types calls e (module_of s) is none last all = absurd (subst IsSome last tt)
no_other types calls e memory is none last all = refl
no_other types calls e (lexer fault) is none last all =
    absurd (subst Fails (sym ((all []).answers.right.ending) ∙ ending_in_error calls e [] none ∙ no_memory e is) tt)
no_other types calls e (unexpected_token span) is none last all = absurd last
no_other types calls e (unexpected_end span) is none last all = absurd (subst IsSome last tt)
no_other types calls e (broken_rule fault) is none last all = absurd (last (no_memory e is))

abbrev IsModule : Answer → Type 0
IsModule (module_of s) = ⊤
IsModule _ = ⊥

module _ {S : Type 0} (steps : S → Option CodeLexeme → S → Type 0) (types : DialectTypes) (old new : CommentKeeper S) where
  -- with the last call, which returned what came or an error instead
  answered : (calls : List CodeLexeme) (last came : Option CodeLexeme) (answer : Answer) → IsGivenFor last came
      → YieldsThen steps old.lexemes.now calls came new.lexemes.now
      → (last ≡ None → HasKept (map lexeme_of calls) new) → HasNoError calls → IsLastItem last answer
      → ((more : Lexemes) → AnswersAfter (tokens_of calls) types (items (lexemes_with calls last more)) answer) → AnswersThrough steps types old answer new
  answered calls last came answer (as_it_came y) run kept none last_is all = record {
    from = record { calls = calls; last = y; run = run; no_error = none; last_is = last_is; answers = all };
    kept = λ s e. kept (subst (IsLastItem y) e last_is);
  }
  answered calls last came answer (in_its_place x e comment is) run kept none last_is all =
      let want = no_other types calls e answer is none last_is all in
      let wanted : AnswersThrough steps types old memory new = record {
        from = record {
          calls = calls;
          last = Some x;
          run = run;
          no_error = none;
          last_is = tt;
          answers = λ more. for_memory (tokens_of calls) types (items (lexemes_with calls (Some x) more));
        };
        kept = λ s e. absurd (subst IsModule (sym e) tt);
      } in
      subst (λ a. AnswersThrough steps types old a new) (sym want) wanted

  pub through : (answer : Answer) → AnswersFrom (Gives steps) types old answer new → old.failed ≡ false → HasKept [] old
      → AnswersThrough steps types old answer new
  through answer a going none_kept =
      let taken_so = taken steps old new a.calls a.last a.run a.no_error going in
      answered a.calls a.last taken_so.came answer taken_so.given_for taken_so.run (taken_so.kept [] none_kept) a.no_error a.last_is a.answers
