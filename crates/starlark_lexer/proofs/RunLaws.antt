-- What runs of the lexer return.
use Rattle.std.proofs.Common.{◌≡◌, ℕ, zero, suc, ◌+◌, ◌-◌, ◌*◌, ◌<◌, ◌==◌, true, false, List, [], ◌∷◌, length, take, Option, Some, None, unwrap_or, IfSome}
use Rattle.std.proofs.Common.{Result, Ok, Err, subst, refl, sym, ap, ◌∙◌, arith, inl, inr}
use Rattle.std.proofs.lemmas.Bool.{cases_Bool, cond-true, cond-false, eq-eqb, ne_eqb}
use Rattle.std.proofs.lemmas.List.{length-take-le}
use Rattle.std.proofs.lemmas.Option.{none-some}
use Rattle.std.proofs.lemmas.Str.{IsUtf8-had}
use Rattle.std.specs.Iterator.{Yields}
use Rattle.std.specs.Option.{IsSomeAnd}
use Rattle.starlark_lexer.specs.declared.token.LexerError.{LexerError}
use Rattle.starlark_lexer.specs.declared.token.LexerErrorKind.{LexerErrorKind}
use Rattle.starlark_lexer.specs.declared.token.LexerErrorKind.TheVariants as kinds
use Rattle.starlark_lexer.specs.declared.lexer.Lexer.{Lexer}
use Rattle.starlark_lexer.specs.declared.f_string.FString.{FString}
use Rattle.starlark_lexer.specs.Tokens.{Lexeme, LexerFault, fault_of}
use Rattle.starlark_lexer.specs.Lexemes.{State, Step, start, innermost, without_innermost, end_step, text_step, token_step, line_step, line_or_token_step}
use Rattle.starlark_lexer.specs.Lexemes.{text_or_line_step, step, left, and_then, lexemes_from, lexemes}
use Rattle.starlark_lexer.specs.Lexer.{CodeLexeme, IsBetween, lexeme_of, state_of, Refuses, Gave, Gives, IsLast, AreLexemes, GaveAll}
use Rattle.starlark_lexer.proofs.StepLaws.{Valid, IsGood, weight, step_good}

-- an error ends the run
abbrev pub RefusalEnds : Result Lexeme LexerFault → State → Type 0
RefusalEnds (Ok l) t = Unit {0}
RefusalEnds (Err e) t = (t.ended ≡ true) × (t.levels ≡ [])

-- less is left after a step
pub record Leaves (s : State) (p : Step) : Type 0 where
  pub less : left p.1 < left s
  pub over : RefusalEnds p.0 p.1

nothing_left : (t : State) → t.ended ≡ true → t.levels ≡ [] → left t ≡ 0
nothing_left t ended none =
    let levels = ap length none in let over = cond-true t.ended 0 (1 + 2 * length t.rest) ended in omega arith

live_left : (s : State) → s.ended ≡ false → left s ≡ weight s
live_left s live = ap (λ n. length s.levels + n) (cond-false s.ended 0 (1 + 2 * length s.rest) live)

good_leaves : (s : State) (x : Result Lexeme LexerFault) (t : State) → s.ended ≡ false → IsGood s x t → Leaves s (x, t)
good_leaves s (Ok l) t live h = let all = live_left s live in let less = h.less in record { less = omega arith; over = tt }
good_leaves s (Err e) t live h =
    let all = live_left s live in
    let none = nothing_left t h.ended h.levels in
    record { less = omega arith; over = (h.ended, h.levels) }

level_left : (levels : List ℕ) (n : ℕ) → innermost levels ≡ Some n → 0 < length levels
level_left [] n e = absurd (none-some n e)
level_left (l ∷ ls) n e = omega arith

end_leaves : (s : State) (o : Option ℕ) → s.ended ≡ true → innermost s.levels ≡ o → IfSome (end_step s o) (Leaves s)
end_leaves s None ended e = tt
end_leaves s (Some n) ended e =
    let some = level_left s.levels n e in
    let t = record s { levels = without_innermost s.levels } in
    let fewer : length (take (length s.levels - 1) s.levels) ≡ length s.levels - 1 = length-take-le (length s.levels - 1) s.levels (omega arith) in
    let here : left t ≡ length (take (length s.levels - 1) s.levels) + 0 = ap (λ k. length (take (length s.levels - 1) s.levels) + k)
    (cond-true s.ended 0 (1 + 2 * length s.rest) ended) in
    let there : left s ≡ length s.levels + 0 = ap (λ k. length s.levels + k) (cond-true s.ended 0 (1 + 2 * length s.rest) ended) in
    record { less = omega arith; over = tt }

pub step-live : (s : State) → s.ended ≡ false → step s ≡ Some (text_or_line_step s (innermost s.f_strings))
unfolding step
step-live s live = cond-false s.ended _ _ live

pub step-ended : (s : State) → s.ended ≡ true → step s ≡ end_step s (innermost s.levels)
unfolding step
step-ended s ended = cond-true s.ended _ _ ended

pub step_leaves : (s : State) → Valid s → IfSome (step s) (Leaves s)
step_leaves s valid =
    elim (cases_Bool s.ended) [
      | inl ended ↦ rw (step-ended s ended) (end_leaves s (innermost s.levels) ended refl)
      | inr live ↦ rw (step-live s live) (good_leaves s (text_or_line_step s (innermost s.f_strings)).0 (text_or_line_step s (innermost s.f_strings)).1 live
          (step_good s valid live).good)
    ]

-- ---- calls

refused_left : (k : LexerErrorKind) (e : LexerError) (s : State) (p : Step) (t : State) → Leaves s p → Refuses k e p t → left t < left s
refused_left kinds.Memory e s p t leaves h = let none = nothing_left t h.1 h.2 in let less = leaves.less in omega arith
refused_left _ e s p t leaves h = let less = leaves.less in rw h at less

gave_left : (s : State) (p : Step) (x : CodeLexeme) (t : State) → Leaves s p → Gave p x t → left t < left s
gave_left s p (Ok x) t leaves h = let less = leaves.less in rw h at less
gave_left s p (Err e) t leaves h = refused_left e.kind e s p t leaves h

given_left : (s : State) (o : Option Step) (x : CodeLexeme) (t : State) → IfSome o (Leaves s) → IsSomeAnd o (λ p. Gave p x t) → left t < left s
given_left s None x t leaves h = absurd h
given_left s (Some p) x t leaves h = gave_left s p x t leaves h

pub gives_left : (s : State) (x : CodeLexeme) (t : State) → Valid s → Gives s (Some x) t → left t < left s
gives_left s x t valid h = given_left s (step s) x t (step_leaves s valid) h

pub lexer_valid : (l : Lexer) → Valid (state_of l)
lexer_valid l = record { utf8 = IsUtf8-had _ l.utf8; opened = l.opened; shallow = l.shallow }

pub gives-live : (s : State) (x : CodeLexeme) (t : State) → s.ended ≡ false → Gave (text_or_line_step s (innermost s.f_strings)) x t → Gives s (Some x) t
gives-live s x t live h = rw (step-live s live) h

-- the text of an f-string is read
pub in-text : (s : State) (f : FString) → Some f ≡ innermost s.f_strings → f.depth ≡ s.depth → text_or_line_step s (innermost s.f_strings) ≡ text_step f s
in-text s f is here = ap (text_or_line_step s) (sym is) ∙ cond-true (s.depth == f.depth) _ _ (eq-eqb s.depth f.depth (sym here))

-- no f-string is open, or a delimiter or a hole is open in it
pub no-f_string : (s : State) → None ≡ innermost s.f_strings → text_or_line_step s (innermost s.f_strings) ≡ line_or_token_step s
no-f_string s is = ap (text_or_line_step s) (sym is)

pub in-hole : (s : State) (f : FString) → Some f ≡ innermost s.f_strings → (f.depth ≡ s.depth → ⊥) → text_or_line_step s (innermost s.f_strings)
    ≡ line_or_token_step s
in-hole s f is other = ap (text_or_line_step s) (sym is) ∙ cond-false (s.depth == f.depth) _ _ (ne_eqb s.depth f.depth (λ e. other (sym e)))

pub at-line : (s : State) → s.line_begins ≡ true → line_or_token_step s ≡ line_step s
at-line s on = cond-true s.line_begins _ _ on

pub in-line : (s : State) → s.line_begins ≡ false → line_or_token_step s ≡ token_step s
in-line s off = cond-false s.line_begins _ _ off

-- ---- where a token lies

pub given_token : (o : Option Step) (x : Result Lexeme LexerFault) (t : State) → IsSomeAnd o (λ p. p ≡ (x, t)) → o ≡ Some (x, t)
given_token None x t h = absurd h
given_token (Some p) x t h = ap (λ q. Some q) h

abbrev begin_of : Option Step → ℕ
begin_of (Some (Ok l, t)) = l.span.begin
begin_of (Some (Err e, t)) = 0
begin_of None = 0

abbrev end_of : Option Step → ℕ
end_of (Some (Ok l, t)) = l.span.end
end_of (Some (Err e, t)) = 0
end_of None = 0

abbrev at_of : Option Step → ℕ
at_of (Some p) = p.1.at
at_of None = 0

end_between : (s : State) (o : Option ℕ) (y : _) (t : State) → end_step s o ≡ Some (lexeme_of (Ok y), t) → IsBetween s.at (Some (Ok y)) t.at
end_between s None y t e = absurd (none-some _ e)
end_between s (Some n) y t e =
    let begin : s.at ≡ y.0 = ap begin_of e in
    let end : s.at + 0 ≡ y.2 = ap end_of e in
    let at : s.at ≡ t.at = ap at_of e in
    (omega arith, omega arith, omega arith)

pub gives_between : (s : State) (x : CodeLexeme) (t : State) → Valid s → Gives s (Some x) t → IsBetween s.at (Some x) t.at
gives_between s (Err e) t valid h = tt
gives_between s (Ok y) t valid h =
    let is = given_token (step s) (lexeme_of (Ok y)) t h in
    elim (cases_Bool s.ended) [
      | inl ended ↦ end_between s (innermost s.levels) y t (sym (step-ended s ended) ∙ is)
      | inr live ↦ let p = text_or_line_step s (innermost s.f_strings) in
          let same : p ≡ (lexeme_of (Ok y), t) = ap (λ o. unwrap_or o p) (sym (step-live s live) ∙ is) in
          let good : IsGood s (lexeme_of (Ok y)) t = subst (λ q. IsGood s q.0 q.1) same (step_good s valid live).good in
          let begin = good.begin in
          let end = good.end in
          let at = good.at in
          let within = good.within in
          (omega arith, omega arith, omega arith)
    ]

-- ---- lists

pub lexemes-step : (n : ℕ) (s t : State) (x : Result Lexeme LexerFault) → step s ≡ Some (x, t) → lexemes_from (suc n) s ≡ x ∷ lexemes_from n t
lexemes-step n s t x e = ap (λ o. and_then o (lexemes_from n)) e

pub lexemes-none : (n : ℕ) (s : State) → step s ≡ None → lexemes_from n s ≡ []
lexemes-none zero s e = refl
lexemes-none (suc n) s e = ap (λ o. and_then o (lexemes_from n)) e

-- after the end nothing comes
pub step-over : (s : State) → s.ended ≡ true → s.levels ≡ [] → step s ≡ None
step-over s ended none = step-ended s ended ∙ ap (λ levels. end_step s (innermost levels)) none

none_given : (o : Option Step) (P : Step → Type 0) → o ≡ None → IsSomeAnd o P → ⊥
none_given None P e h = h
none_given (Some p) P e h = none-some p (sym e)

-- memory ran out in place of the token of the step
given_memory : (o : Option Step) (n : ℕ) (xs : List CodeLexeme) (e : LexerError) (t : State) → IsSomeAnd o (λ p. Refuses kinds.Memory e p t) → xs ≡ []
    → IsLast kinds.Memory e xs (and_then o (lexemes_from n))
given_memory None n xs e t h none = h
given_memory (Some p) n xs e t h none = (h.0, none)

memory_over : (o : Option Step) (e : LexerError) (t : State) → IsSomeAnd o (λ p. Refuses kinds.Memory e p t) → (t.ended ≡ true) × (t.levels ≡ [])
memory_over None e t h = absurd h
memory_over (Some p) e t h = (h.1, h.2)

module _ {S : Type 0} (view : S → State) (valid : (s : S) → Valid (view s)) (Q : S → Option CodeLexeme → S → Type 0) where
  abbrev G : S → Option CodeLexeme → S → Type 0
  G s r t = Gives (view s) r (view t) × Q s r t

  over_none : (s t : S) (xs : List CodeLexeme) → step (view s) ≡ None → Yields G s xs t → xs ≡ []
  over_none s t [] none ys = refl
  over_none s t (x ∷ xs) none (j, g, more) = absurd (none_given (step (view s)) _ none g.0)

  after_refusal : (k : LexerErrorKind) (e : LexerError) (n : ℕ) (s j t : S) (xs : List CodeLexeme) → IsSomeAnd (step (view s)) (λ p. Refuses k e p (view j))
      → Yields G j xs t
      → IsLast k e xs (lexemes_from (suc n) (view s))
  after_refusal kinds.Memory e n s j t xs g more =
      let (ended, levels) = memory_over (step (view s)) e (view j) g in
      given_memory (step (view s)) n xs e (view j) g (over_none j t xs (step-over (view j) ended levels) more)
  after_refusal _ e n s j t xs g more =
      let is = given_token (step (view s)) (Err (fault_of e)) (view j) g in
      let leaves : IfSome (Some (Err (fault_of e), view j)) (Leaves (view s)) = subst (λ o. IfSome o (Leaves (view s))) is (step_leaves (view s) (valid s)) in
      let none = step-over (view j) leaves.over.0 leaves.over.1 in
      (lexemes-step n (view s) (view j) (Err (fault_of e)) is ∙ ap (λ ls. Err (fault_of e) ∷ ls) (lexemes-none n (view j) none), over_none j t xs none more)

  pub lexemes_from_run : (n : ℕ) (s t u : S) (xs : List CodeLexeme) → left (view s) < n → Yields G s xs t → G t None u → AreLexemes xs (lexemes_from n (view s))
  lexemes_from_run n s t u [] room ys end = lexemes-none n (view s) (rw ys end.0.0)
  lexemes_from_run zero s t u (x ∷ xs) room ys end = absurd (omega arith)
  lexemes_from_run (suc n) s t u (Ok x ∷ xs) room (j, g, more) end =
      let less = gives_left (view s) (Ok x) (view j) (valid s) g.0 in (
        lexemes_from n (view j),
        lexemes-step n (view s) (view j) (lexeme_of (Ok x)) (given_token (step (view s)) (lexeme_of (Ok x)) (view j) g.0),
        lexemes_from_run n j t u xs (omega arith) more end,
      )
  lexemes_from_run (suc n) s t u (Err e ∷ xs) room (j, g, more) end = after_refusal e.kind e n s j t xs g.0 more

pub all_lexemes : (s : Lexer) (text : List ℕ) (xs : List CodeLexeme) → state_of s ≡ start text → GaveAll s xs → AreLexemes xs (lexemes text)
unfolding lexemes
all_lexemes s text xs begun all =
    let room : left (start text) < 2 + 2 * length text = omega arith in
    subst (λ x. AreLexemes xs (lexemes_from (2 + 2 * length text) x)) begun
    (lexemes_from_run state_of lexer_valid (λ s r t. IsBetween s.at r t.at) (2 + 2 * length text) s all.run.0 all.end xs
    (subst (λ x. left x < 2 + 2 * length text) (sym begun) room) all.run.1 all.run.2)
