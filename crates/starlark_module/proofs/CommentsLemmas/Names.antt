-- Texts cut at spaces and commas.
use Rattle.std.proofs.Common.{◌≡◌, ℕ, ◌+◌, ◌-◌, ◌<◌, ◌≤◌, Bool, true, false, cond, ltb, ◌==◌, not, List, [], ◌∷◌, length, take, drop, Option, Some, None}
use Rattle.std.proofs.Common.{IsUtf8, IsCharBoundary, unwrap_or, inl, inr, refl, sym, ap, ◌∙◌, subst, arith, nat_eq, if◌then◌else◌}
use native.Mathlib.Nat.{sub-zero}
use Rattle.std.proofs.lemmas.Bool.{or_cases, eqb-true, ltb-true, ltb-false, not-true, cond-true, cond-false}
use Rattle.std.proofs.lemmas.List.Elements.{All-from_get_or}
use Rattle.std.proofs.lemmas.List.Quantifiers.{position-Some}
use Rattle.std.proofs.lemmas.List.Splits.{slice_split_first, slice_split_none}
use Rattle.std.proofs.lemmas.List.Sums.{prefix_len_passes}
use Rattle.std.proofs.lemmas.Str.{IsCharBoundary-after_ascii, IsCharBoundary-before_ascii}
use Rattle.std.specs.Bool.{⊤}
use Rattle.std.proofs.lemmas.Str.Pattern.{starts_text}
use Rattle.std.specs.Str.{trim_start}
use Rattle.std.specs.Str.Pattern.{StripsPrefix, FindsTextPrefix}
use Rattle.std.specs.List.{position, position_or_len, slice_split, starts_with}
use Rattle.starlark_lexer.specs.Tokens.{Text}
use Rattle.starlark_module.specs.Comments.Suppressions.{is_separator, prefix, names_listed, names_in}

separators_are_ascii : (b : ℕ) → is_separator b ≡ true → b < 128
separators_are_ascii b h = elim (or_cases (b == 32) (b == 44) h) [
  | inl is_space ↦ let e : b ≡ 32 = eqb-true b 32 is_space in omega (arith, e)
  | inr is_comma ↦ let e : b ≡ 44 = eqb-true b 44 is_comma in omega (arith, e)
]

abbrev IsNothing : Option ℕ → Type 0
IsNothing None = ⊤
IsNothing (Some i) = ⊥

module _ {A : Type 0} (p : A → Bool) (xs : List A) where
  abbrev at : ℕ
  at = position_or_len p xs

  found_at : (b : Bool) (i : ℕ) → ltb at (length xs) ≡ b → cond b (Some at) None ≡ Some i → (at < length xs) × (at ≡ i)
  found_at true i lt e = (ltb-true _ _ lt, ap (λ o. unwrap_or o 0) e)
  found_at false i lt e = absurd (subst IsNothing e tt)

  not_found : (b : Bool) → ltb at (length xs) ≡ b → cond b (Some at) None ≡ None → length xs ≤ at
  not_found true lt e = absurd (subst IsNothing (sym e) tt)
  not_found false lt e = ltb-false _ _ lt

  pub cut_at : (i : ℕ) (d : A) → position p xs ≡ Some i → slice_split p xs ≡ take i xs ∷ slice_split p (drop (i + 1) xs)
  cut_at i d e =
      let (within, same) = found_at (ltb at (length xs)) i refl e in
      rw (← same) (slice_split_first p xs d within)

  pub whole : (d : A) → position p xs ≡ None → slice_split p xs ≡ xs ∷ []
  whole d e =
      let long = not_found (ltb at (length xs)) refl e in
      slice_split_none p xs (All-from_get_or (λ x. p x ≡ false) xs d
      (λ i within. not-true _ (prefix_len_passes (λ x. not (p x)) xs i d (omega (arith, within, long)))))

-- after the first separator a character begins
pub after_separator : (text : Text) (i : ℕ) → IsUtf8 text → position is_separator text ≡ Some i → IsCharBoundary text (i + 1)
after_separator text i utf8 e =
    let (within, passes, _) = position-Some is_separator text i 0 e in
    IsCharBoundary-after_ascii text i utf8 within (separators_are_ascii _ passes)

-- and before it one ends
pub before_separator : (text : Text) (i : ℕ) → position is_separator text ≡ Some i → IsCharBoundary text i
before_separator text i e =
    let (within, passes, _) = position-Some is_separator text i 0 e in
    IsCharBoundary-before_ascii text i within (separators_are_ascii _ passes)

-- the text up to an offset, as a range from 0
pub up_to : (text : Text) (i : ℕ) → take (i - 0) (drop 0 text) ≡ take i text
up_to text i = rw sub-zero refl

-- ---- what follows the prefix

stripped : (text rest : Text) → StripsPrefix (FindsTextPrefix prefix) text rest → (starts_with nat_eq text prefix ≡ true) × (rest ≡ drop (length prefix) text)
stripped text rest (n, finds, is, len) = (
  sym (starts_text true prefix text (n, finds, subst (IsCharBoundary text) (sym finds.0) finds.2)),
  is ∙ ap (λ k. drop k text) finds.0,
)

pub named : (comment text rest : Text) → text ≡ trim_start comment → StripsPrefix (FindsTextPrefix prefix) text rest → names_listed rest ≡ names_in comment
unfolding names_in
named comment text rest e h =
    let (starts, is) = stripped text rest h in
    ap names_listed is ∙ sym (cond-true (starts_with nat_eq text prefix) (names_listed (drop (length prefix) text)) [] starts)
    ∙ ap (λ t. if starts_with nat_eq t prefix then names_listed (drop (length prefix) t) else []) e

pub unnamed : (comment text : Text) → text ≡ trim_start comment → FindsTextPrefix prefix text None → [] ≡ names_in comment
unfolding names_in
unnamed comment text e h =
    sym (cond-false (starts_with nat_eq text prefix) (names_listed (drop (length prefix) text)) [] (sym (starts_text false prefix text h)))
    ∙ ap (λ t. if starts_with nat_eq t prefix then names_listed (drop (length prefix) t) else []) e
