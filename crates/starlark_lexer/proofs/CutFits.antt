-- Each lexeme lies in its text.
use Rattle.std.proofs.Common.{◌≡◌, ℕ, ◌+◌, ◌<◌, ◌≤◌, true, false, not, ◌&&◌, ◌||◌, ◌==◌, nat_lt, List, length, get_or, take, drop, IsUtf8, Ok, Err, inl, inr}
use Rattle.std.proofs.Common.{arith, add_assoc, ltb-true, eqb-true, ltb-false}
use Rattle.std.proofs.lemmas.Bool.{cases_Bool, and_parts, or_cases, not-true, cond_both, cond-true, cond-false}
use Rattle.std.proofs.lemmas.Bool.Decides.{nat_tests}
use Rattle.std.proofs.lemmas.List.{length-take-le}
use Rattle.std.proofs.lemmas.List.Sums.{prefix_len-le-length}
use Rattle.std.proofs.lemmas.Str.{IsCharBoundary-start, IsCharBoundary-after_ascii, IsCharBoundary-from_rest, IsUtf8-drop}
use Rattle.std.specs.List.{slice_index}
use Rattle.std.specs.Str.{IsCharBoundary}
use Rattle.starlark_lexer.specs.declared.token.LexerErrorKind.TheVariants as kinds
use Rattle.starlark_lexer.specs.Newlines.{first, newline_len}
use Rattle.starlark_lexer.specs.Classes.{is_letter, is_digit_of}
use Rattle.starlark_lexer.specs.Cuts.{refused, IsCutOf}
use Rattle.starlark_lexer.specs.Tokens.{Float, Int}
use Rattle.starlark_lexer.specs.Lexing.{cut}
use Rattle.starlark_lexer.specs.Numbers.{begins_number, number_cut, prefixed_cut, prefixed_len, decimal_cut, integer_cut, base_of, digits_len, fraction_len}
use Rattle.starlark_lexer.specs.Numbers.{sign_len, exponent_len, integer}
use Rattle.starlark_lexer.proofs.ByteRuns.{within_from_byte, digit_ascii, run_boundary}
use Rattle.starlark_lexer.proofs.CutLaws.{front_cut, newline_fits, name_fits, sign_fits, comment_fits}
use Rattle.starlark_lexer.proofs.NumberLemmas.{digits_some}

digits_boundary : (base : ℕ) (text : List ℕ) → base ≤ 36 → IsUtf8 text → IsCharBoundary text (digits_len base text)
digits_boundary base text high utf8 = run_boundary (is_digit_of base) text (digits_len base text) utf8 (λ b e. digit_ascii b base high e) (omega arith)

-- an ASCII byte, and then what ends on a boundary of the rest
after_byte_boundary : (text : List ℕ) (n : ℕ) → IsUtf8 text → 0 < get_or text 0 0 → get_or text 0 0 < 128
    → (IsUtf8 (drop 1 text) → IsCharBoundary (drop 1 text) n) → IsCharBoundary text (1 + n)
after_byte_boundary text n utf8 some ascii more =
    let within = within_from_byte text 0 some in
    let here = IsCharBoundary-after_ascii text 0 utf8 within ascii in
    IsCharBoundary-from_rest text 1 n here.0 (more (IsUtf8-drop text 1 utf8 here))

fraction_boundary : (text : List ℕ) → IsUtf8 text → IsCharBoundary text (fraction_len text)
fraction_boundary text utf8 =
    cond_both (first text == 46) (1 + digits_len 10 (drop 1 text)) 0 (IsCharBoundary text)
    (λ t. let dot : get_or text 0 0 ≡ 46 = eqb-true (first text) 46 t in
    after_byte_boundary text _ utf8 (omega arith) (omega arith) (λ u. digits_boundary 10 (drop 1 text) (omega arith) u))
    (λ _. IsCharBoundary-start text utf8)

sign_boundary : (text : List ℕ) → IsUtf8 text → IsCharBoundary text (sign_len text)
sign_boundary text utf8 =
    cond_both (first text == 43 || first text == 45) 1 0 (IsCharBoundary text)
    (λ t. let some : (0 < get_or text 0 0) × (get_or text 0 0 < 128) = elim (or_cases (first text == 43) (first text == 45) t) [
      | inl plus ↦ (omega (arith, eqb-true (first text) 43 plus), omega (arith, eqb-true (first text) 43 plus))
      | inr minus ↦ (omega (arith, eqb-true (first text) 45 minus), omega (arith, eqb-true (first text) 45 minus))
    ] in IsCharBoundary-after_ascii text 0 utf8 (within_from_byte text 0 some.0) some.1)
    (λ _. IsCharBoundary-start text utf8)

exponent_boundary : (text : List ℕ) → IsUtf8 text → IsCharBoundary text (exponent_len text)
exponent_boundary text utf8 =
    let rest = drop 1 text in
    let sign = sign_len rest in
    let digits = digits_len 10 (drop sign rest) in
    cond_both ((first text == 101 || first text == 69) && nat_lt 0 digits) (1 + sign + digits) 0 (IsCharBoundary text)
    (λ t. let letter = (and_parts (first text == 101 || first text == 69) (nat_lt 0 digits) t).0 in
    let some : (0 < get_or text 0 0) × (get_or text 0 0 < 128) = elim (or_cases (first text == 101) (first text == 69) letter) [
      | inl e ↦ (omega (arith, eqb-true (first text) 101 e), omega (arith, eqb-true (first text) 101 e))
      | inr e ↦ (omega (arith, eqb-true (first text) 69 e), omega (arith, eqb-true (first text) 69 e))
    ] in
    rw add_assoc (after_byte_boundary text (sign + digits) utf8 some.0 some.1
    (λ u. let s = sign_boundary rest u in IsCharBoundary-from_rest rest sign digits s.0
    (digits_boundary 10 (drop sign rest) (omega arith) (IsUtf8-drop rest sign u s)))))
    (λ _. IsCharBoundary-start text utf8)

integer_fits : (text : List ℕ) → IsUtf8 text → 0 < digits_len 10 text → IsCutOf text (integer_cut (take (digits_len 10 text) text))
unfolding integer_cut
integer_fits text utf8 some =
    let d = digits_len 10 text in
    let digits = take d text in
    let within = prefix_len-le-length (is_digit_of 10) text in
    let len : length digits ≡ d = length-take-le d text within in
    let boundary : IsCharBoundary text (length digits) = rw len (digits_boundary 10 text (omega arith) utf8) in
    let n = length digits in
    let bad : IsCutOf text (refused kinds.InvalidNumber 0 n) =
    let same : 0 + n ≡ n = omega arith in rw same (front_cut text (Err kinds.InvalidNumber) n utf8 (omega arith) (omega arith) boundary tt) in
    cond_both (first digits == 48 && nat_lt 1 n) _ _ (IsCutOf text) (λ _. bad)
    (λ _. front_cut text (Ok (Int (integer 10 digits digits))) n utf8 (omega arith) (omega arith) boundary tt)

decimal_fits : (text : List ℕ) → IsUtf8 text → 0 < length text → begins_number text ≡ true → IsCutOf text (decimal_cut text)
unfolding decimal_cut
decimal_fits text utf8 some begins =
    let d = digits_len 10 text in
    let rest = drop d text in
    let f = fraction_len rest in
    let tail = drop f rest in
    let e = exponent_len tail in
    let at_d = digits_boundary 10 text (omega arith) utf8 in
    let utf8_rest = IsUtf8-drop text d utf8 at_d in
    let at_f = fraction_boundary rest utf8_rest in
    let at_e = exponent_boundary tail (IsUtf8-drop rest f utf8_rest at_f) in
    let at_end : IsCharBoundary text (d + f + e) =
    rw add_assoc (IsCharBoundary-from_rest text d (f + e) at_d.0 (IsCharBoundary-from_rest rest f e at_f.0 at_e)) in
    cond_both (nat_lt 0 (f + e)) _ _ (IsCutOf text)
    (λ t. let h = ltb-true 0 (f + e) t in front_cut text (Ok (Float (take (d + f + e) text))) (d + f + e) utf8 (omega arith) at_end.0 at_end tt)
    (λ t. let h = ltb-false 0 (f + e) t in integer_fits text utf8 (digits_some text some begins (omega arith)))

base_low : (b : ℕ) → base_of b ≤ 36
base_low b =
    let P : ℕ → Type 0 = λ n. n ≤ 36 in
    cond_both (b == 120 || b == 88) 16 _ P (λ _. omega arith)
    (λ _. cond_both (b == 111 || b == 79) 8 _ P (λ _. omega arith) (λ _. cond_both (b == 98 || b == 66) 2 10 P (λ _. omega arith) (λ _. omega arith)))

base_letter : (b : ℕ) → (base_of b == 10) ≡ false → (0 < b) × (b < 128)
base_letter b e = (grind (arith, nat_tests), grind (arith, nat_tests))

prefixed_boundary : (text : List ℕ) → IsUtf8 text → 0 < prefixed_len text → IsCharBoundary text (2 + prefixed_len text)
prefixed_boundary text utf8 some =
    let letter = get_or text 1 0 in
    let base = base_of letter in
    let n = digits_len base (drop 2 text) in
    let test = first text == 48 && not (base == 10) in
    elim (cases_Bool test) [
      | inl on ↦ let e : prefixed_len text ≡ n = cond-true test n 0 on in
          let bounds = base_letter letter (not-true (base == 10) (and_parts (first text == 48) (not (base == 10)) on).1) in
          let here : IsCharBoundary text 2 = IsCharBoundary-after_ascii text 1 utf8 (within_from_byte text 1 bounds.0) bounds.1 in
          rw e (IsCharBoundary-from_rest text 2 n here.0 (digits_boundary base (drop 2 text) (base_low letter) (IsUtf8-drop text 2 utf8 here)))
      | inr off ↦ let e : prefixed_len text ≡ 0 = cond-false test n 0 off in absurd (omega arith)
    ]

prefixed_fits : (text : List ℕ) → IsUtf8 text → 0 < prefixed_len text → IsCutOf text (prefixed_cut (prefixed_len text) text)
prefixed_fits text utf8 some =
    let n = prefixed_len text in
    let end = prefixed_boundary text utf8 some in
    front_cut text (Ok (Int (integer (base_of (slice_index text 1)) (take n (drop 2 text)) (take (2 + n) text)))) (2 + n) utf8 (omega arith) end.0 end tt

pub number_fits : (text : List ℕ) → IsUtf8 text → 0 < length text → begins_number text ≡ true → IsCutOf text (number_cut text)
unfolding number_cut
number_fits text utf8 some begins =
    cond_both (nat_lt 0 (prefixed_len text)) _ _ (IsCutOf text) (λ t. prefixed_fits text utf8 (ltb-true 0 (prefixed_len text) t))
    (λ _. decimal_fits text utf8 some begins)

pub cut_fits : (text : List ℕ) → IsUtf8 text → 0 < length text → IsCutOf text (cut text)
unfolding cut
cut_fits text utf8 some =
    cond_both (nat_lt 0 (newline_len text)) _ _ (IsCutOf text) (λ t. newline_fits text utf8 (ltb-true _ _ t))
    (λ _. cond_both (first text == 35) _ _ (IsCutOf text) (λ t. comment_fits text utf8 (eqb-true _ _ t))
    (λ _. cond_both (is_letter (first text)) _ _ (IsCutOf text) (name_fits text utf8 some)
    (λ _. cond_both (begins_number text) _ _ (IsCutOf text) (number_fits text utf8 some) (λ _. sign_fits text utf8 some))))
