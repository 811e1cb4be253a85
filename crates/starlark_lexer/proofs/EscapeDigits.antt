-- The numbers of escapes.
use Rattle.std.proofs.Common.{◌≡◌, ℕ, zero, suc, ◌+◌, ◌<◌, ◌≤◌, ◌^◌, inl, inr, List, [], ◌∷◌, length, take, drop, Result, Ok, Err, refl, ap, ◌∙◌, arith}
use Rattle.std.proofs.Common.{ltb-true, eqb}
use Rattle.std.proofs.lemmas.Bool.{cases_Bool, cond-true, cond-false, ne_eqb}
use Rattle.std.proofs.lemmas.Int.Digits.{digits_value-lt}
use Rattle.std.proofs.Math.Nat.{pow-le-pow_left, pow-le-pow_right}
use Rattle.std.specs.List.{prefix_len}
use Rattle.std.specs.Result.{result_unwrap_or}
use Rattle.std.specs.Str.Parse.{AllDigits, ParsesUnsigned, digits_value, without_leading_plus}
use Rattle.starlark_lexer.specs.Classes.{is_digit_of}

-- a run of digits consists of digits
pub AllDigits-run : (base : ℕ) (xs : List ℕ) (n : ℕ) → n ≤ prefix_len (is_digit_of base) xs → AllDigits base (take n xs)
AllDigits-run base xs zero h = tt
AllDigits-run base [] (suc n) h = tt
AllDigits-run base (x ∷ xs) (suc n) h =
    let more = 1 + prefix_len (is_digit_of base) xs in
    elim (cases_Bool (is_digit_of base x)) [
      | inl on ↦ (ltb-true _ _ on, AllDigits-run base xs n (let e = cond-true (is_digit_of base x) more 0 on in omega arith))
      | inr off ↦ absurd (let e = cond-false (is_digit_of base x) more 0 off in omega arith)
    ]

digits_below : (base : ℕ) (ds : List ℕ) → base ≤ 16 → 0 < length ds → length ds ≤ 8 → AllDigits base ds → digits_value base ds < 2 ^ 32
digits_below base ds high some few all =
    let below = digits_value-lt base ds all in
    let wider : base ^ length ds ≤ 16 ^ length ds = pow-le-pow_left high (length ds) in
    let longer : 16 ^ length ds ≤ 16 ^ 8 = pow-le-pow_right (omega arith) few in
    omega arith

no_plus : (base d : ℕ) (ds : List ℕ) → base ≤ 16 → AllDigits base (d ∷ ds) → without_leading_plus (d ∷ ds) ≡ d ∷ ds
no_plus base d ds high all =
    ap (λ n. drop n (d ∷ ds)) (cond-false (eqb d 43) 1 0 (ne_eqb d 43 (λ e. let low = all.0 in let plus : 36 < base = rw e at low in omega arith)))

-- up to eight digits denote a number below 2^32, which is read; no digits denote 0
pub short_number : {E : Type 0} (base : ℕ) (ds : List ℕ) (r : Result ℕ E) → base ≤ 16 → length ds ≤ 8 → AllDigits base ds → ParsesUnsigned 32 base ds r
    → result_unwrap_or r 0 ≡ digits_value base ds
short_number base [] (Ok x) high few all parsed = absurd (omega (arith, parsed.0.0.0))
short_number base [] (Err e) high few all parsed = refl
short_number base (d ∷ ds) (Ok x) high few all parsed = parsed.1 ∙ ap (digits_value base) (no_plus base d ds high all)
short_number base (d ∷ ds) (Err e) high few all parsed =
    absurd (parsed (rw (no_plus base d ds high all) ((omega arith, all), digits_below base (d ∷ ds) high (omega arith) few all)))
