-- Where comments end.
use Rattle.std.proofs.Common.{◌≡◌, ℕ, zero, suc, ◌-◌, ◌<◌, ◌≤◌, Bool, not, cond, ◌&&◌, ◌==◌, nat_lt, inl, inr, subst, List, [], ◌∷◌, length, get_or, arith}
use Rattle.std.proofs.Common.{eqb-true}
use Rattle.std.proofs.lemmas.Bool.{cases_lt, and_parts, cond_both}
use Rattle.std.proofs.lemmas.Bool.Decides.{nat_tests}
use Rattle.std.proofs.lemmas.List.Sums.{prefix_len-le-length, prefix_len_stops}
use Rattle.std.proofs.lemmas.Str.{IsCharBoundary-before_ascii, IsCharBoundary-end}
use Rattle.std.specs.List.{prefix_len}
use Rattle.std.specs.Str.{IsCharBoundary}
use Rattle.starlark_lexer.specs.Newlines.{first}
use Rattle.starlark_lexer.specs.Lexing.{before_newline}

-- any byte except a line feed
abbrev in_line : ℕ → Bool
in_line b = not (b == 10)

in_line-first : (text : List ℕ) → first text ≡ 35 → 0 < prefix_len in_line text
in_line-first [] e = cc
in_line-first (b ∷ bs) e = rw e (omega arith)

-- the comment at the front of the text
pub record IsNewlinePlace (text : List ℕ) (n : ℕ) : Type 0 where
  pub some : 0 < n
  pub within : n ≤ length text
  pub boundary : IsCharBoundary text n

line_end : (text : List ℕ) → IsCharBoundary text (prefix_len in_line text)
line_end text =
    elim (cases_lt (prefix_len in_line text) (length text)) [
      | inl within ↦ IsCharBoundary-before_ascii text _ within (let stop = prefix_len_stops in_line text 0 within in grind (arith, nat_tests))
      | inr past ↦ subst (IsCharBoundary text) (omega (arith, prefix_len-le-length in_line text)) (IsCharBoundary-end text)
    ]

not_first : (text : List ℕ) (n : ℕ) → first text ≡ 35 → 0 < n → get_or text (n - 1) 0 ≡ 13 → 0 < n - 1
not_first text zero e some h = absurd (omega arith)
not_first text (suc zero) e some h = absurd (omega arith)
not_first text (suc (suc n)) e some h = omega arith

before_return : (text : List ℕ) (n : ℕ) → first text ≡ 35 → 0 < n → n ≤ length text → get_or text (n - 1) 0 ≡ 13 → IsNewlinePlace text (n - 1)
before_return text n e some within h = record {
  some = not_first text n e some h;
  within = omega arith;
  boundary = IsCharBoundary-before_ascii text (n - 1) (omega arith) (omega arith);
}

-- the end of a comment and, before a carriage return there, the end of its text
pub before_newline-IsNewlinePlace : (text : List ℕ) → first text ≡ 35 → IsNewlinePlace text (before_newline text)
before_newline-IsNewlinePlace text e =
    let n = prefix_len in_line text in
    let some = in_line-first text e in
    let within = prefix_len-le-length in_line text in
    cond_both (nat_lt n (length text) && get_or text (n - 1) 0 == 13) (n - 1) n (IsNewlinePlace text)
    (λ t. before_return text n e some within (eqb-true _ _ (and_parts _ _ t).1))
    (λ f. record { some = some; within = within; boundary = line_end text })

pub comment_end-IsNewlinePlace : (text : List ℕ) (n : ℕ) → first text ≡ 35 → IsNewlinePlace text n
    → IsNewlinePlace text (cond (get_or text (n - 1) 0 == 13) (n - 1) n)
comment_end-IsNewlinePlace text n e h =
    cond_both (get_or text (n - 1) 0 == 13) (n - 1) n (IsNewlinePlace text)
    (λ t. before_return text n e h.some h.within (eqb-true _ _ t)) (λ f. h)
