-- The lexemes of a text lie in it in order.
use Rattle.std.proofs.Common.{◌≡◌, ℕ, zero, suc, ◌+◌, ◌-◌, ◌*◌, ◌<◌, ◌≤◌, true, false, List, ◌∷◌, length, get_or, take, drop, IsUtf8, Option, Some, None}
use Rattle.std.proofs.Common.{IfSome, Result, Ok, Err, inl, inr, subst, refl, sym, ap, ◌∙◌, arith, length-drop, get_or-drop}
use Rattle.std.proofs.lemmas.Bool.{false≢true, cases_lt, cases_Bool}
use Rattle.std.proofs.lemmas.List.{drop-drop}
use Rattle.std.proofs.lemmas.Str.{IsCharBoundary-from_rest, IsCharBoundary-start, IsUtf8-drop}
use Rattle.std.specs.Str.{IsCharBoundary}
use Rattle.starlark_lexer.specs.Cuts.{is_gap, IsSpelled}
use Rattle.starlark_lexer.specs.Lexemes.{State, Step, start, innermost, without_innermost, end_step, text_or_line_step, step, left, lexemes_from, lexemes}
use Rattle.starlark_lexer.specs.Order.{IsGap, IsPlaced, ArePlaced, AreLaidOut}
use Rattle.starlark_lexer.specs.Tokens.{Lexeme, LexerFault, Dedent, lexeme, from_to}
use Rattle.starlark_lexer.proofs.RunLaws.{Leaves, step_leaves, step-live, step-ended, step-over, lexemes-step, lexemes-none}
use Rattle.starlark_lexer.proofs.StepLaws.{Valid, IsGood, Placed, step_good}

-- the state is at its position in the text, and only bytes that may be between lexemes lie before it, back to `from`
record IsAt (text : List ℕ) (from : ℕ) (s : State) : Type 0 where
  rest : s.rest ≡ drop s.at text
  here : IsCharBoundary text s.at
  after : from ≤ s.at
  gap : IsGap text from s.at
  done : s.ended ≡ true → from ≡ length text

gap_more : (text : List ℕ) (from at n : ℕ) → IsGap text from at → ((j : ℕ) → j < n → is_gap (get_or (drop at text) j 0) ≡ true) → IsGap text from (at + n)
gap_more text from at n before more k above below =
    elim (cases_lt k at) [
      | inl early ↦ before k above early
      | inr late ↦ let e : at + (k - at) ≡ k = omega arith in
          let h = more (k - at) (omega arith) in
          rw (get_or-drop at text (k - at) 0, e) at h
    ]

-- where a token of a step lies
token_placed : (text : List ℕ) (from : ℕ) (s : State) (l : Lexeme) (t : State) → IsAt text from s → Placed s l t → IsPlaced text from l
token_placed text from s l t at p =
    let begin = p.begin in
    let end = p.end in
    let after = at.after in
    let here : IsCharBoundary (drop s.at text) p.skip = subst (λ r. IsCharBoundary r p.skip) at.rest p.here in
    let there : IsCharBoundary (drop s.at text) (p.skip + p.len) = subst (λ r. IsCharBoundary r (p.skip + p.len)) at.rest p.there in
    let width : l.span.end - l.span.begin ≡ p.len = omega arith in
    let source : drop p.skip s.rest ≡ drop l.span.begin text = ap (λ r. drop p.skip r) at.rest ∙ drop-drop p.skip s.at text
    ∙ ap (λ n. drop n text) (sym begin) in
    record {
      after = omega arith;
      order = omega arith;
      begins = subst (IsCharBoundary text) (sym begin) (IsCharBoundary-from_rest text s.at p.skip at.here.0 here);
      ends = subst (IsCharBoundary text) (omega arith) (IsCharBoundary-from_rest text s.at (p.skip + p.len) at.here.0 there);
      gap = subst (IsGap text from) (sym begin) (gap_more text from s.at p.skip at.gap (λ j b. subst (λ r. is_gap (get_or r j 0) ≡ true) at.rest
          (p.before j b)));
      spelled = subst (λ n. IsSpelled (take n (drop l.span.begin text)) (Ok l.token)) (sym width)
          (subst (λ r. IsSpelled (take p.len r) (Ok l.token)) source p.spelled);
    }

-- where the lexer is after a token
next_at : (text : List ℕ) (from : ℕ) (s : State) (l : Lexeme) (t : State) → IsAt text from s → Placed s l t → IsAt text l.span.end t
next_at text from s l t at p =
    let end = p.end in
    let on = p.at in
    let within = p.within in
    let room = at.here.0 in
    let onward : IsCharBoundary (drop s.at text) p.on = subst (λ r. IsCharBoundary r p.on) at.rest p.onward in
    let len : length s.rest ≡ length text - s.at = ap length at.rest ∙ length-drop s.at text in
    record {
      rest = p.rest ∙ ap (λ r. drop p.on r) at.rest ∙ drop-drop p.on s.at text ∙ ap (λ n. drop n text) (sym on);
      here = subst (IsCharBoundary text) (sym on) (IsCharBoundary-from_rest text s.at p.on at.here.0 onward);
      after = omega arith;
      gap = λ k above below.
          let e : s.at + (k - s.at) ≡ k = omega arith in
          let g = p.after (k - s.at) (omega arith) (omega arith) in
          let h : is_gap (get_or (drop s.at text) (k - s.at) 0) ≡ true = subst (λ r. is_gap (get_or r (k - s.at) 0) ≡ true) at.rest g in
          rw (get_or-drop s.at text (k - s.at) 0, e) at h;
      done = λ e. let d = p.done e in omega arith;
    }

next_valid : (s : State) (l : Lexeme) (t : State) → Valid s → Placed s l t → Valid t
next_valid s l t valid p = record { utf8 = rw p.rest (IsUtf8-drop s.rest p.on valid.utf8 p.onward); opened = p.opened; shallow = p.shallow }

good_placed : (text : List ℕ) (from n : ℕ) (s : State) (x : Result Lexeme LexerFault) (t : State) → Valid s → IsAt text from s → IsGood s x t
    → ((from' : ℕ) → Valid t → IsAt text from' t → ArePlaced text from' (lexemes_from n t)) → ArePlaced text from (x ∷ lexemes_from n t)
good_placed text from n s (Ok l) t valid at good more =
    (token_placed text from s l t at good, more l.span.end (next_valid s l t valid good) (next_at text from s l t at good))
good_placed text from n s (Err e) t valid at good more =
    let end = good.end in
    let there : IsCharBoundary (drop s.at text) good.on = subst (λ r. IsCharBoundary r good.on) at.rest good.there in (
      subst (IsCharBoundary text) (sym end) (IsCharBoundary-from_rest text s.at good.on at.here.0 there),
      lexemes-none n t (step-over t good.ended good.levels),
    )

-- the Dedents at the end
dedent_placed : (text : List ℕ) (from : ℕ) (s : State) → IsAt text from s → s.ended ≡ true → IsPlaced text from (lexeme Dedent (from_to s.at (s.at + 0)))
dedent_placed text from s at ended =
    let same : s.at + 0 ≡ s.at = omega arith in
    record {
      after = at.after;
      order = omega arith;
      begins = at.here;
      ends = subst (IsCharBoundary text) (sym same) at.here;
      gap = at.gap;
      spelled = tt;
    }

leaves_of : (s : State) (p : Step) → Valid s → step s ≡ Some p → Leaves s p
leaves_of s p valid e = subst (λ o. IfSome o (Leaves s)) e (step_leaves s valid)

after_dedent : (text : List ℕ) (from : ℕ) (s : State) → IsAt text from s → s.ended ≡ true
    → IsAt text (s.at + 0) (record s { levels = without_innermost s.levels })
after_dedent text from s at ended =
    let whole = at.done ended in
    let after = at.after in
    let within = at.here.0 in
    record { rest = at.rest; here = at.here; after = omega arith; gap = λ k above below. absurd (omega arith); done = λ _. omega arith }

dedents_placed : (n : ℕ) (text : List ℕ) (from : ℕ) (s : State) (o : Option ℕ) → Valid s → IsAt text from s → s.ended ≡ true → innermost s.levels ≡ o
    → ((from' : ℕ) (t : State) → Valid t → left t < left s → t.ended ≡ true → IsAt text from' t → ArePlaced text from' (lexemes_from n t))
    → ArePlaced text from (lexemes_from (suc n) s)
dedents_placed n text from s None valid at ended e more =
    let none : step s ≡ None = step-ended s ended ∙ ap (end_step s) e in
    subst (λ ls. ArePlaced text from ls) (sym (lexemes-none (suc n) s none)) (at.done ended)
dedents_placed n text from s (Some k) valid at ended e more =
    let t = record s { levels = without_innermost s.levels } in
    let l = lexeme Dedent (from_to s.at (s.at + 0)) in
    let is : step s ≡ Some (Ok l, t) = step-ended s ended ∙ ap (end_step s) e in
    let leaves = leaves_of s (Ok l, t) valid is in
    subst (λ ls. ArePlaced text from ls) (sym (lexemes-step n s t (Ok l) is)) (
      dedent_placed text from s at ended,
      more (s.at + 0) t (record { utf8 = valid.utf8; opened = valid.opened; shallow = valid.shallow }) leaves.less ended
          (after_dedent text from s at ended),
    )

end_placed : (n : ℕ) (text : List ℕ) (from : ℕ) (s : State) → Valid s → left s < n → s.ended ≡ true → IsAt text from s → ArePlaced text from (lexemes_from n s)
end_placed zero text from s valid room ended at = absurd (omega arith)
end_placed (suc n) text from s valid room ended at =
    dedents_placed n text from s (innermost s.levels) valid at ended refl (λ from' t v less e a. end_placed n text from' t v (omega arith) e a)

placed : (n : ℕ) (text : List ℕ) (from : ℕ) (s : State) → Valid s → left s < n → IsAt text from s → ArePlaced text from (lexemes_from n s)
placed zero text from s valid room at = absurd (omega arith)
placed (suc n) text from s valid room at =
    elim (cases_Bool s.ended) [
      | inl ended ↦ end_placed (suc n) text from s valid room ended at
      | inr live ↦ let p = text_or_line_step s (innermost s.f_strings) in
          let is = step-live s live in
          let leaves = leaves_of s p valid is in
          let less = leaves.less in
          subst (λ ls. ArePlaced text from ls) (sym (lexemes-step n s p.1 p.0 is))
          (good_placed text from n s p.0 p.1 valid at (step_good s valid live).good (λ from' v a. placed n text from' p.1 v (omega arith) a))
    ]

some_lexemes : (n : ℕ) (s : State) → s.ended ≡ false → 0 < length (lexemes_from (suc n) s)
some_lexemes n s live =
    let p = text_or_line_step s (innermost s.f_strings) in
    subst (λ ls. 0 < length ls) (sym (lexemes-step n s p.1 p.0 (step-live s live))) (omega arith)

start_valid : (text : List ℕ) → IsUtf8 text → Valid (start text)
start_valid text utf8 = record { utf8 = utf8; opened = λ k d h. absurd (omega arith); shallow = omega arith }

start_at : (text : List ℕ) → IsUtf8 text → IsAt text 0 (start text)
start_at text utf8 = record {
  rest = refl;
  here = IsCharBoundary-start text utf8;
  after = omega arith;
  gap = λ k above below. absurd (omega arith);
  done = λ f. absurd (false≢true f);
}

two_more : (n : ℕ) → 2 + n ≡ suc (1 + n)
two_more n = omega arith

pub lexemes_laid_out : (text : List ℕ) → IsUtf8 text → AreLaidOut text (lexemes text)
unfolding lexemes
lexemes_laid_out text utf8 = record {
  some = subst (λ n. 0 < length (lexemes_from n (start text))) (sym (two_more (2 * length text))) (some_lexemes (1 + 2 * length text) (start text) refl);
  placed = placed (2 + 2 * length text) text 0 (start text) (start_valid text utf8) (omega arith) (start_at text utf8);
}
