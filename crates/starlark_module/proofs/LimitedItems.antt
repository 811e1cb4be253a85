-- What the calls of a guard of the lexer say about the items of a text that nest no deeper than a limit.
use Rattle.std.proofs.Common.{◌≡◌, ℕ, List, [], ◌∷◌, map, Option, None, Some, Result, Ok, Err, IfOk, inl, inr, refl, sym, ap, ap₂, subst, ◌∙◌}
use Rattle.starlark_checks.specs.Refusals.{Refusal}
use Rattle.starlark_module.specs.Comments.Building.{suppressions_in}
use Rattle.starlark_module.specs.Comments.Keeping.{comment_spans}
use Rattle.starlark_module.specs.Comments.Suppressions.{suppressions}
use Rattle.starlark_depth.proofs.GuardRuns.{guard_gives}
use Rattle.starlark_depth.specs.Depths.{State, start, after_token}
use Rattle.starlark_depth.specs.Given.{Begins, IsGivenOf, IsOutOfMemory}
use Rattle.starlark_depth.specs.Guarding.{Gives}
use Rattle.starlark_depth.specs.Limited.{limit_at, limited, limited_from}
use Rattle.starlark_depth.specs.declared.guard.DepthGuard.{DepthGuard}
use Rattle.starlark_lexer.specs.Lexemes.{lexemes}
use Rattle.starlark_lexer.specs.Lexer.{CodeLexeme, gives, lexeme_of}
use Rattle.starlark_lexer.specs.Places.{File}
use Rattle.starlark_lexer.specs.Tokens.{Text, Lexeme, LexerFault, fault_of, span_of}
use Rattle.starlark_lexer.specs.declared.dialect.Dialect.{Dialect}
use Rattle.starlark_lexer.specs.declared.lexer.Lexer.{Lexer}
use Rattle.starlark_lexer.specs.declared.token.LexerError.{LexerError}
use Rattle.starlark_lexer.specs.declared.token.LexerErrorKind.{LexerErrorKind}
use Rattle.starlark_lexer.specs.declared.token.LexerErrorKind.TheVariants as kinds
use Rattle.starlark_module.proofs.LexerItems.{Fails, ending_after, ending_in_error, not_none}
use Rattle.starlark_module.specs.Modules.{AnswersCall, Says}
use Rattle.starlark_parse.specs.Stmt.Runs.{IsLastItem}
use Rattle.starlark_module.specs.ConsumedLexemes.{AnswersCallsUnder}
use Rattle.starlark_module.specs.declared.module.AstModule.{AstModule}
use Rattle.starlark_parse_cursor.specs.Runs.{HasNoError, lexemes_with}
use Rattle.starlark_spec.specs.Items.{Items, Ending, at_end, fails, out_of_memory, items, ending_in, ending_of, is_comment}
use Rattle.starlark_tree.specs.Ast.{Statement, no_payload}
use Rattle.starlark_tree.specs.Views.{statement_of}
use Rattle.starlark_validate.proofs.AnswerCorrectness.{out_of_memory_so}
use Rattle.starlark_spec.specs.Answers.{Answer}
use Rattle.starlark_validate.specs.Answers.{AnswersUnder, IsValidModule}
use Rattle.starlark_spec.specs.Answers.Answer.{module_of, memory, lexer, unexpected_token, unexpected_end, broken_rule}

-- if allocation failed for the last lexeme, that is the answer
memory_alone : (dialect : Dialect) (xs : List CodeLexeme) (e : LexerError) (answer : Answer) (ls : Items) → HasNoError xs → e.kind ≡ kinds.Memory
    → IsLastItem (Some (Err e)) answer
    → ((more : List (Result Lexeme LexerFault)) → AnswersUnder dialect (items (lexemes_with xs (Some (Err e)) more)) answer) → AnswersUnder dialect ls answer
memory_alone dialect xs e (module_of x) ls none is last all = not_none _ last
memory_alone dialect xs e memory ls none is last all = out_of_memory_so dialect ls
memory_alone dialect xs e (lexer fault) ls none is last all =
    let ends : ending_in e.kind (fault_of e) ≡ fails fault = sym (ending_in_error xs e [] none) ∙ (all []).right.ending in
    absurd (subst Fails (sym ends ∙ ap (λ k. ending_in k (fault_of e)) is) tt)
memory_alone dialect xs e (unexpected_token span) ls none is last all = absurd last
memory_alone dialect xs e (unexpected_end span) ls none is last all = not_none _ last
memory_alone dialect xs e (broken_rule fault) ls none is last all = absurd (last (ap (λ k. ending_in k (fault_of e)) is))

of_memory : (dialect : Dialect) (xs : List CodeLexeme) (last : Option CodeLexeme) (answer : Answer) (ls : Items) → HasNoError xs → IsOutOfMemory last
    → IsLastItem last answer
    → ((more : List (Result Lexeme LexerFault)) → AnswersUnder dialect (items (lexemes_with xs last more)) answer) → AnswersUnder dialect ls answer
of_memory dialect xs None answer ls none is last all = absurd is
of_memory dialect xs (Some (Ok x)) answer ls none is last all = absurd is
of_memory dialect xs (Some (Err e)) answer ls none is last all = memory_alone dialect xs e answer ls none is last all

module _ (dialect : Dialect) (g u : DepthGuard Lexer) (text : Text) (begins : Begins text g) where
  -- what is correct for the lexemes that a guard returned is correct for the text's that nest no deeper than its limit
  pub answers_limited : (answer : Answer) → AnswersCallsUnder (Gives gives) dialect g answer u
      → AnswersUnder dialect (items (limited g.depth.limit (lexemes text))) answer
  answers_limited answer a =
      elim (guard_gives text g u a.calls a.last begins a.run a.no_error) [
        | inl (more, is) ↦ subst (λ ls. AnswersUnder dialect (items ls) answer) (sym is) (a.answers more).answers
        | inr none ↦ of_memory dialect a.calls a.last answer (items (limited g.depth.limit (lexemes text))) a.no_error none a.last_is
            (λ more. (a.answers more).answers)
      ]

  came_all : (calls : List CodeLexeme) (last : Option CodeLexeme) → last ≡ None → IsGivenOf (limited g.depth.limit (lexemes text)) calls last
      → map lexeme_of calls ≡ limited g.depth.limit (lexemes text)
  came_all calls None over (inl (more, is)) = sym is
  came_all calls None over (inr none) = absurd none
  came_all calls (Some x) over given = not_none x over

  -- if a module is the answer, the guard returned all of these
  pub all_limited_came : (m : Statement no_payload) (a : AnswersCallsUnder (Gives gives) dialect g (module_of m) u) → map lexeme_of a.calls
      ≡ limited g.depth.limit
      (lexemes text)
  all_limited_came m a = came_all a.calls a.last a.last_is (guard_gives text g u a.calls a.last begins a.run a.no_error)

-- ---- of lexemes that come to their end none is too deep

abbrev IsEnd : Ending → Type 0
IsEnd at_end = Unit {0}
IsEnd _ = ⊥

no_end_in : (k : LexerErrorKind) (fault : LexerFault) → IsEnd (ending_in k fault) → ⊥
no_end_in kinds.InvalidCharacter fault e = e
no_end_in kinds.ReservedKeyword fault e = e
no_end_in kinds.InvalidNumber fault e = e
no_end_in kinds.UnfinishedString fault e = e
no_end_in kinds.InvalidEscape fault e = e
no_end_in kinds.Indentation fault e = e
no_end_in kinds.InvalidFString fault e = e
no_end_in kinds.TooDeep fault e = e
no_end_in kinds.Memory fault e = e

module _ (n : ℕ) where
  unlimited_at : (l : Lexeme) (ls : List (Result Lexeme LexerFault)) (o : Option State) → ((t : State) → IsEnd (items (limited_from n t ls)).ending
      → limited_from n t ls ≡ ls)
      → IsEnd (items (limit_at l o (λ t. limited_from n t ls))).ending → limit_at l o (λ t. limited_from n t ls) ≡ Ok l ∷ ls
  unlimited_at l ls None more e = absurd e
  unlimited_at l ls (Some t) more e = ap (λ rest. Ok l ∷ rest) (more t (subst IsEnd (ending_after (is_comment l.token) l (items (limited_from n t ls))) e))

  unlimited : (ls : List (Result Lexeme LexerFault)) (s : State) → IsEnd (items (limited_from n s ls)).ending → limited_from n s ls ≡ ls
  unlimited [] s e = refl
  unlimited (Ok l ∷ ls) s e = unlimited_at l ls (after_token n s l.token) (unlimited ls) e
  unlimited (Err x ∷ ls) s e = absurd (no_end_in x.kind x e)

  -- the items of a module's lexemes are all of them
  pub all_within : (dialect : Dialect) (ls : List (Result Lexeme LexerFault)) (m : Statement no_payload) → IsValidModule dialect (items (limited n ls)) m
      → limited n ls ≡ ls
  all_within dialect ls m valid = unlimited ls start (subst IsEnd (sym valid.keeps.derived.at_end) tt)

-- ---- a module that was parsed

module _ (dialect : Dialect) (g u : DepthGuard Lexer) (file : File) (text : Text) (text_is : file.text ≡ text) (begins : Begins text g) where
  pub record HasLexemes (m : AstModule) : Type 0 where
    pub within : limited g.depth.limit (lexemes text) ≡ lexemes text
    pub valid : IsValidModule dialect (items (lexemes text)) (statement_of m.statement)
    pub comments_are : map span_of m.comments.items ≡ comment_spans (lexemes text)
    pub suppressions_are : suppressions_in m.suppressions ≡ suppressions text (lexemes text)

  said : (answer : Answer) (m : AstModule) (from : AnswersCallsUnder (Gives gives) dialect g answer u) → Says file (map lexeme_of from.calls) answer (Ok m)
      → HasLexemes m
  said (module_of x) m from says =
      let right = (answers_limited dialect g u text begins (module_of x) from).right in
      let within = all_within g.depth.limit dialect (lexemes text) x right in
      let all = all_limited_came dialect g u text begins x from ∙ within in
      record {
        within = within;
        valid = subst (IsValidModule dialect (items (lexemes text))) (sym says.statement) (subst (λ ls. IsValidModule dialect (items ls) x) within right);
        comments_are = says.comments ∙ ap comment_spans all;
        suppressions_are = says.suppressions_are ∙ ap₂ suppressions text_is all;
      }
  said memory m from says = absurd says
  said (lexer fault) m from says = absurd says
  said (unexpected_token span) m from says = absurd says
  said (unexpected_end span) m from says = absurd says
  said (broken_rule fault) m from says = absurd says

  pub limited_parsed : (r : Result AstModule Refusal) → AnswersCall (Gives gives) dialect g file r u → IfOk r HasLexemes
  limited_parsed (Ok m) a = said a.answer m a.from a.says
  limited_parsed (Err e) a = tt
