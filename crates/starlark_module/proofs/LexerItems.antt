-- What the lexer's calls say about a text's items.
use Rattle.std.proofs.Common.{◌≡◌, ℕ, zero, suc, ◌+◌, ◌*◌, ◌<◌, Bool, true, false, List, [], ◌∷◌, ◌++◌, map, length, Option, Some, None, Result, Ok, Err, subst}
use Rattle.std.proofs.Common.{refl, sym, ap, ◌∙◌, arith, if◌then◌else◌}
use Rattle.std.proofs.lemmas.List.{append-nil}
use Rattle.std.specs.Bool.{⊤}
use Rattle.std.specs.Iterator.{Yields}
use Rattle.std.specs.Option.{IsSomeAnd}
use Rattle.starlark_parse_cursor.specs.Runs.{HasNoError, lexemes_with}
use Rattle.starlark_spec.specs.Items.{Items, Ending, fails, out_of_memory, items, ending_in, ending_of}
use Rattle.starlark_lexer.proofs.RunLaws.{given_token, gives_left, lexer_valid, lexemes-none, lexemes-step}
use Rattle.starlark_lexer.specs.Lexemes.{Step, lexemes, lexemes_from, left, start, step}
use Rattle.starlark_lexer.specs.Lexer.{CodeLexeme, Refuses, gives, lexeme_of, state_of}
use Rattle.starlark_lexer.specs.Tokens.{Lexeme, LexerFault, fault_of}
use Rattle.starlark_lexer.specs.declared.dialect.Dialect.{Dialect}
use Rattle.starlark_lexer.specs.declared.lexer.Lexer.{Lexer}
use Rattle.starlark_lexer.specs.declared.token.LexerError.{LexerError}
use Rattle.starlark_lexer.specs.declared.token.LexerErrorKind.{LexerErrorKind}
use Rattle.starlark_lexer.specs.declared.token.LexerErrorKind.TheVariants as kinds
use Rattle.starlark_parse.specs.Stmt.Runs.{IsLastItem}
use Rattle.starlark_module.specs.ConsumedLexemes.{AnswersCallsUnder}
use Rattle.starlark_tree.specs.Ast.{Statement, no_payload}
use Rattle.starlark_validate.proofs.AnswerCorrectness.{out_of_memory_so}
use Rattle.starlark_spec.specs.Answers.{Answer}
use Rattle.starlark_validate.specs.Answers.{AnswersUnder}
use Rattle.starlark_spec.specs.Answers.Answer.{module_of, memory, lexer, unexpected_token, unexpected_end, broken_rule}

-- ---- calls that returned no error, and what is to come

pub record Came (n : ℕ) (s t : Lexer) (xs : List CodeLexeme) : Type 0 where
  pub room : ℕ
  pub enough : left (state_of t) < room
  pub is : lexemes_from n (state_of s) ≡ map lexeme_of xs ++ lexemes_from room (state_of t)

came : (n : ℕ) (s t : Lexer) (xs : List CodeLexeme) → left (state_of s) < n → Yields gives s xs t → HasNoError xs → Came n s t xs
came n s t [] room ys none = record { room = n; enough = subst (λ k. left (state_of k) < n) ys room; is = ap (λ k. lexemes_from n (state_of k)) ys }
came zero s t (x ∷ xs) room ys none = absurd (omega arith)
came (suc n) s t (Ok x ∷ xs) room (j, g, more) none =
    let less = gives_left (state_of s) (Ok x) (state_of j) (lexer_valid s) g.0 in
    let rest = came n j t xs (omega arith) more none in
    record {
      room = rest.room;
      enough = rest.enough;
      is = lexemes-step n (state_of s) (state_of j) (lexeme_of (Ok x)) (given_token (step (state_of s)) (lexeme_of (Ok x)) (state_of j) g.0)
          ∙ ap (λ ls. lexeme_of (Ok x) ∷ ls) rest.is;
    }
came (suc n) s t (Err e ∷ xs) room ys none = absurd none

next_is : (m : ℕ) (t u : Lexer) (x : Result Lexeme LexerFault) → left (state_of t) < m → step (state_of t) ≡ Some (x, state_of u)
    → (more : List (Result Lexeme LexerFault)) × (lexemes_from m (state_of t) ≡ x ∷ more)
next_is zero t u x room is = absurd (omega arith)
next_is (suc m) t u x room is = (lexemes_from m (state_of u), lexemes-step m (state_of t) (state_of u) x is)

-- ---- how the items end

pub ending_after : (b : Bool) (l : Lexeme) (rest : Items) → (if b then rest else record { tokens = l ∷ rest.tokens; ending = rest.ending }).ending ≡ rest.ending
ending_after true l rest = refl
ending_after false l rest = refl

pub ending_in_error : (xs : List CodeLexeme) (e : LexerError) (more : List (Result Lexeme LexerFault)) → HasNoError xs
    → (items (map lexeme_of xs ++ lexeme_of (Err e) ∷ more)).ending ≡ ending_of (fault_of e)
ending_in_error [] e more none = refl
ending_in_error (Ok x ∷ xs) e more none = ending_after _ _ _ ∙ ending_in_error xs e more none
ending_in_error (Err f ∷ xs) e more none = absurd none

abbrev pub Fails : Ending → Type 0
Fails (fails fault) = ⊤
Fails _ = ⊥

-- what is not out of memory is what the step refuses
refused : (k : LexerErrorKind) (e : LexerError) (o : Option Step) (t : _) (fault : LexerFault) → IsSomeAnd o (λ p. Refuses k e p t) → ending_in k (fault_of e)
    ≡ fails fault
    → o ≡ Some (Err (fault_of e), t)
refused kinds.Memory e o t fault h ends = absurd (subst Fails (sym ends) tt)
refused _ e o t fault h ends = given_token o (Err (fault_of e)) t h

-- an error other than out of memory ends the items
fails_so : (k : LexerErrorKind) (fault : LexerFault) → (ending_in k fault ≡ out_of_memory → ⊥) → ending_in k fault ≡ fails fault
fails_so kinds.InvalidCharacter fault h = refl
fails_so kinds.ReservedKeyword fault h = refl
fails_so kinds.InvalidNumber fault h = refl
fails_so kinds.UnfinishedString fault h = refl
fails_so kinds.InvalidEscape fault h = refl
fails_so kinds.Indentation fault h = refl
fails_so kinds.InvalidFString fault h = refl
fails_so kinds.TooDeep fault h = refl
fails_so kinds.Memory fault h = absurd (h refl)

-- ---- answers

abbrev pub IsSome : Option CodeLexeme → Type 0
IsSome None = ⊥
IsSome (Some x) = ⊤

pub not_none : {A : Type 0} (x : CodeLexeme) → Some x ≡ None → A
not_none x e = absurd (subst IsSome e tt)

module _ (dialect : Dialect) (n : ℕ) (s t u : Lexer) (xs : List CodeLexeme) (answer : Answer) (from : Came n s t xs) where
  answered_end : gives t None u → ((more : List (Result Lexeme LexerFault)) → AnswersUnder dialect (items (lexemes_with xs None more)) answer)
      → AnswersUnder dialect (items (lexemes_from n (state_of s))) answer
  answered_end g all =
      let over : lexemes_from n (state_of s) ≡ map lexeme_of xs = from.is ∙ ap (λ ls. map lexeme_of xs ++ ls) (lexemes-none from.room (state_of t) g.0.0)
      ∙ append-nil (map lexeme_of xs) in
      subst (λ ls. AnswersUnder dialect (items ls) answer) (sym over) (all [])

  answered_item : (x : CodeLexeme) → step (state_of t) ≡ Some (lexeme_of x, state_of u)
      → ((more : List (Result Lexeme LexerFault)) → AnswersUnder dialect (items (lexemes_with xs (Some x) more)) answer)
      → AnswersUnder dialect (items (lexemes_from n (state_of s))) answer
  answered_item x is all =
      let (more, next) = next_is from.room t u (lexeme_of x) from.enough is in
      subst (λ ls. AnswersUnder dialect (items ls) answer) (sym (from.is ∙ ap (λ ls. map lexeme_of xs ++ ls) next)) (all more)

answered_error : (dialect : Dialect) (n : ℕ) (s t u : Lexer) (xs : List CodeLexeme) (e : LexerError) (answer : Answer) → Came n s t xs → HasNoError xs
    → gives t (Some (Err e)) u → IsLastItem (Some (Err e)) answer
    → ((more : List (Result Lexeme LexerFault)) → AnswersUnder dialect (items (lexemes_with xs (Some (Err e)) more)) answer)
    → AnswersUnder dialect (items (lexemes_from n (state_of s))) answer
answered_error dialect n s t u xs e (module_of x) from none g last all = not_none _ last
answered_error dialect n s t u xs e memory from none g last all = out_of_memory_so dialect _
answered_error dialect n s t u xs e (lexer fault) from none g last all =
    let ends : ending_in e.kind (fault_of e) ≡ fails fault = sym (ending_in_error xs e [] none) ∙ (all []).right.ending in
    answered_item dialect n s t u xs (lexer fault) from (Err e) (refused e.kind e (step (state_of t)) (state_of u) fault g.0 ends) all
answered_error dialect n s t u xs e (unexpected_token span) from none g last all = absurd last
answered_error dialect n s t u xs e (unexpected_end span) from none g last all = not_none _ last
answered_error dialect n s t u xs e (broken_rule fault) from none g last all =
    answered_item dialect n s t u xs (broken_rule fault) from (Err e) (refused e.kind e (step (state_of t)) (state_of u) (fault_of e) g.0
    (fails_so e.kind (fault_of e) last)) all

answered : (dialect : Dialect) (n : ℕ) (s t u : Lexer) (xs : List CodeLexeme) (r : Option CodeLexeme) (answer : Answer) → Came n s t xs → HasNoError xs
    → gives t r u → IsLastItem r answer
    → ((more : List (Result Lexeme LexerFault)) → AnswersUnder dialect (items (lexemes_with xs r more)) answer)
    → AnswersUnder dialect (items (lexemes_from n (state_of s))) answer
answered dialect n s t u xs None answer from none g last all = answered_end dialect n s t u xs answer from g all
answered dialect n s t u xs (Some (Ok x)) answer from none g last all =
    answered_item dialect n s t u xs answer from (Ok x) (given_token (step (state_of t)) (lexeme_of (Ok x)) (state_of u) g.0) all
answered dialect n s t u xs (Some (Err e)) answer from none g last all = answered_error dialect n s t u xs e answer from none g last all

-- what came from a lexer at the start of a text
begun_so : (s t : Lexer) (text : List ℕ) (xs : List CodeLexeme) → state_of s ≡ start text → Yields gives s xs t → HasNoError xs
    → Came (2 + 2 * length text) s t xs
begun_so s t text xs begun run none =
    let room : left (start text) < 2 + 2 * length text = omega arith in
    came (2 + 2 * length text) s t xs (subst (λ x. left x < 2 + 2 * length text) (sym begun) room) run none

-- what is correct for the lexemes that the lexer returned is correct for the text's
pub answers_text : (dialect : Dialect) (s : Lexer) (text : List ℕ) (answer : Answer) (u : Lexer) → state_of s ≡ start text
    → AnswersCallsUnder gives dialect s answer u → AnswersUnder dialect (items (lexemes text)) answer
unfolding lexemes
answers_text dialect s text answer u begun a =
    let from = begun_so s a.run.0 text a.calls begun a.run.1 a.no_error in
    subst (λ x. AnswersUnder dialect (items (lexemes_from (2 + 2 * length text) x)) answer) begun
    (answered dialect (2 + 2 * length text) s a.run.0 u a.calls a.last answer from a.no_error a.run.2 a.last_is (λ more. (a.answers more).answers))

to_the_end : (s t u : Lexer) (text : List ℕ) (xs : List CodeLexeme) (last : Option CodeLexeme) → state_of s ≡ start text → Yields gives s xs t → HasNoError xs
    → gives t last u → last ≡ None → map lexeme_of xs ≡ lexemes text
unfolding lexemes
to_the_end s t u text xs last begun run none given over =
    let front = begun_so s t text xs begun run none in
    let end : gives t None u = subst (λ l. gives t l u) over given in
    sym (ap (lexemes_from (2 + 2 * length text)) (sym begun) ∙ front.is ∙ ap (λ ls. map lexeme_of xs ++ ls) (lexemes-none front.room (state_of t) end.0.0)
    ∙ append-nil (map lexeme_of xs))

-- if the answer is a module, the lexer returned all lexemes of the text
pub all_came : (dialect : Dialect) (s u : Lexer) (text : List ℕ) (m : Statement no_payload) (a : AnswersCallsUnder gives dialect s (module_of m) u)
    → state_of s ≡ start text → map lexeme_of a.calls ≡ lexemes text
all_came dialect s u text m a begun = to_the_end s a.run.0 u text a.calls a.last begun a.run.1 a.no_error a.run.2 a.last_is
