-- Where a format may be cut.
use Rattle.std.proofs.Common.{◌≡◌, ℕ, zero, suc, ◌+◌, ◌<◌, ◌==◌, ◌&&◌, Bool, true, false, List, [], ◌∷◌, length, get_or, sym, ap, subst, ◌∙◌, arith}
use Rattle.std.specs.Str.{IsCharBoundary, IsUtf8}
use Rattle.std.proofs.lemmas.Bool.{eqb-true}
use Rattle.std.proofs.lemmas.Str.{IsCharBoundary-before_ascii, IsCharBoundary-after_ascii}
use Rattle.starlark_lexer.specs.Tokens.{Text}

-- what is read past the end is 0
inside : (f : Text) (i x : ℕ) → get_or f i 0 ≡ x → 0 < x → i < length f
inside [] i x is some = absurd (omega (arith, is))
inside (b ∷ f) zero x is some = omega arith
inside (b ∷ f) (suc i) x is some = let h : i < length f = inside f i x is some in omega arith

both : (a b : Bool) → (a && b) ≡ true → b ≡ true
both true b is = is
both false b is = cc

next_but_one : (n : ℕ) → (n + 1) + 1 ≡ n + 2
next_but_one n = omega arith

fourth : (n : ℕ) → (n + 3) + 1 ≡ n + 4
fourth n = omega arith

third : (n : ℕ) → (n + 2) + 1 ≡ n + 3
third n = omega arith

-- the test of the last two bytes, from whichever index they are counted
pub ends_fits : (f : Text) (at : ℕ) → (get_or f (at + 2) 0 == 114 && get_or f ((at + 2) + 1) 0 == 125) ≡ true
    → (get_or f (at + 2) 0 == 114 && get_or f (at + 3) 0 == 125) ≡ true
ends_fits f at is = ap (λ n. get_or f (at + 2) 0 == 114 && get_or f n 0 == 125) (sym (third at)) ∙ is

pub hole_fits : (f : Text) (at : ℕ) → IsUtf8 f → get_or f at 0 ≡ 123 → get_or f (at + 1) 0 ≡ 125 → IsCharBoundary f at × IsCharBoundary f (at + 2)
hole_fits f at text first second = (
  IsCharBoundary-before_ascii f at (inside f at 123 first (omega arith)) (omega arith),
  let P : ℕ → Type 0 = λ n. IsCharBoundary f n in
      subst P (next_but_one at) (IsCharBoundary-after_ascii f (at + 1) text (inside f (at + 1) 125 second (omega arith)) (omega arith)),
)

pub repr_fits : (f : Text) (at : ℕ) → IsUtf8 f → get_or f at 0 ≡ 123 → (get_or f (at + 2) 0 == 114 && get_or f (at + 3) 0 == 125) ≡ true
    → IsCharBoundary f at × IsCharBoundary f (at + 4)
repr_fits f at text first ends =
    let last : get_or f (at + 3) 0 ≡ 125 = eqb-true _ _ (both (get_or f (at + 2) 0 == 114) (get_or f (at + 3) 0 == 125) ends) in (
      IsCharBoundary-before_ascii f at (inside f at 123 first (omega arith)) (omega arith),
      let P : ℕ → Type 0 = λ n. IsCharBoundary f n in
          subst P (fourth at) (IsCharBoundary-after_ascii f (at + 3) text (inside f (at + 3) 125 last (omega arith)) (omega arith)),
    )
