-- Digits and their values.
use Rattle.std.proofs.Common.{◌≡◌, ℕ, ◌+◌, ◌<◌, ◌≤◌, ◌^◌, Bool, true, ◌==◌, nat_lt, eqb, List, [], ◌∷◌, length, get_or, take, drop, inl, inr, subst, refl, ap}
use Rattle.std.proofs.Common.{◌∙◌, arith, ltb-true}
use Rattle.std.proofs.lemmas.Bool.{cases_lt, and_parts, cond-false, cond-true, ne_eqb, le-ltb, cond_both, and_from, or_cases}
use Rattle.std.proofs.Math.Numerals.{one-add}
use Rattle.starlark_lexer.specs.Newlines.{first}
use Rattle.starlark_lexer.specs.Numbers.{begins_number, fraction_len, exponent_len, digits_len, decimal_cut, integer_cut}
use Rattle.starlark_lexer.proofs.ByteRuns.{prefix_some}
use Rattle.std.proofs.lemmas.List.{drop-drop}
use Rattle.std.specs.List.{list_all, prefix_len, slice_index}
use Rattle.std.specs.Str.Parse.{AllDigits, IsNumeral, digits_value, without_leading_plus}
use Rattle.starlark_lexer.specs.Classes.{is_digit_of}

pub drop-three : (i j k : ℕ) (xs : List ℕ) → drop k (drop j (drop i xs)) ≡ drop (i + j + k) xs
drop-three i j k xs = ap (λ l. drop k l) (drop-drop j i xs) ∙ drop-drop k (i + j) xs

AllDigits-list_all : (base : ℕ) (ds : List ℕ) → list_all (is_digit_of base) ds ≡ true → AllDigits base ds
AllDigits-list_all base [] all = tt
AllDigits-list_all base (d ∷ ds) all =
    let parts = and_parts (is_digit_of base d) (list_all (is_digit_of base) ds) all in
    (ltb-true _ _ parts.0, AllDigits-list_all base ds parts.1)

no_plus : (base : ℕ) (ds : List ℕ) → base ≤ 36 → 0 < length ds → list_all (is_digit_of base) ds ≡ true → get_or ds 0 0 ≡ 43 → ⊥
no_plus base [] high some all e = omega arith
no_plus base (d ∷ ds) high some all e =
    let here = (and_parts (is_digit_of base d) (list_all (is_digit_of base) ds) all).0 in
    let plus : is_digit_of base 43 ≡ true = subst (λ x. is_digit_of base x ≡ true) e here in
    let low : 36 < base = ltb-true 36 base plus in
    omega arith

without_plus : (base : ℕ) (ds : List ℕ) → base ≤ 36 → 0 < length ds → list_all (is_digit_of base) ds ≡ true → without_leading_plus ds ≡ ds
without_plus base ds high some all =
    ap (λ n. drop n ds) (cond-false (eqb (get_or ds 0 0) 43) 1 0 (ne_eqb _ _ (no_plus base ds high some all)))

pub large_from_refused : (base : ℕ) (ds : List ℕ) → base ≤ 36 → 0 < length ds → list_all (is_digit_of base) ds ≡ true
    → (IsNumeral base (without_leading_plus ds) × (digits_value base (without_leading_plus ds) < 2 ^ 32) → ⊥) → 2 ^ 31 ≤ digits_value base ds
large_from_refused base ds high some all refused =
    let same = without_plus base ds high some all in
    elim (cases_lt (digits_value base ds) (2 ^ 31)) [
      | inl small ↦ absurd (refused (rw same ((some, AllDigits-list_all base ds all), omega arith)))
      | inr large ↦ large
    ]

-- a run of digits consists of digits
pub list_all-run : (p : ℕ → Bool) (xs : List ℕ) → list_all p (take (prefix_len p xs) xs) ≡ true
list_all-run p [] = refl
list_all-run p (x ∷ xs) =
    let P : ℕ → Type 0 = λ n. list_all p (take n (x ∷ xs)) ≡ true in
    cond_both (p x) (1 + prefix_len p xs) 0 P (λ on. rw one-add (and_from (p x) _ on (list_all-run p xs))) (λ _. refl)

-- a number without a point and without an exponent has a digit
pub digits_some : (text : List ℕ) → 0 < length text → begins_number text ≡ true → fraction_len (drop (digits_len 10 text) text) ≡ 0 → 0 < digits_len 10 text
digits_some text some begins none =
    elim (or_cases _ _ begins) [
      | inl digit ↦ prefix_some (is_digit_of 10) text some digit
      | inr point ↦ elim (cases_lt 0 (digits_len 10 text)) [
        | inl yes' ↦ yes'
        | inr zero' ↦ let dot = (and_parts (first text == 46) (is_digit_of 10 (slice_index text 1)) point).0 in
            let e : digits_len 10 text ≡ 0 = omega arith in
            let here : fraction_len text ≡ 0 = subst (λ n. fraction_len (drop n text) ≡ 0) e none in
            let there : fraction_len text ≡ 1 + digits_len 10 (drop 1 text) = cond-true (first text == 46) (1 + digits_len 10 (drop 1 text)) 0 dot in
            absurd (omega arith)
      ]
    ]

pub decimal_cut-integer : (text : List ℕ) (n f e : ℕ) → n ≡ digits_len 10 text → f ≡ fraction_len (drop n text) → e ≡ exponent_len (drop f (drop n text))
    → f + e ≡ 0
    → decimal_cut text ≡ integer_cut (take n text)
unfolding decimal_cut
decimal_cut-integer text n f e hn hf he none =
    let f' = fraction_len (drop n text) in
    let e' = exponent_len (drop f' (drop n text)) in
    let same : e ≡ e' = he ∙ ap (λ k. exponent_len (drop k (drop n text))) hf in
    let zero' : f' + e' ≡ 0 = omega arith in
    rw (← hn) (cond-false (nat_lt 0 (f' + e')) _ _ (le-ltb 0 (f' + e') (omega arith)))
