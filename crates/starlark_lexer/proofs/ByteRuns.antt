-- Runs of ASCII bytes, and where characters begin in them.
use Rattle.std.proofs.Common.{◌≡◌, ℕ, zero, suc, ◌<◌, ◌≤◌, Bool, true, inl, inr, List, [], ◌∷◌, length, get_or, IsUtf8, arith, add-one}
use Rattle.std.proofs.lemmas.Bool.{cases_lt}
use Rattle.std.proofs.lemmas.Bool.Decides.{nat_tests}
use Rattle.std.proofs.lemmas.List.{get_or_past}
use Rattle.std.proofs.lemmas.List.Sums.{prefix_len-le-length, prefix_len_passes}
use Rattle.std.proofs.lemmas.Str.{IsCharBoundary-start, IsCharBoundary-after_ascii}
use Rattle.std.specs.List.{prefix_len}
use Rattle.std.specs.Str.{IsCharBoundary}
use Rattle.starlark_lexer.specs.declared.text.Class.{Class}
use Rattle.starlark_lexer.specs.declared.text.Class.TheVariants.{Whitespace, Base, Name, CharRest, Line}
use Rattle.starlark_lexer.specs.Classes.{class_test, IsAsciiClass, is_digit_of}

pub digit_ascii : (b base : ℕ) → base ≤ 36 → is_digit_of base b ≡ true → b < 128
digit_ascii b base h e = elim (cases_lt b 123) [ inl low ↦ omega arith | inr high ↦ grind (arith, nat_tests) ]

ascii_class : (class : Class) (b : ℕ) → IsAsciiClass class → class_test class b ≡ true → b < 128
ascii_class Whitespace b h e = grind (arith, nat_tests)
ascii_class (Base base) b h e = digit_ascii b base h e
ascii_class Name b h e = grind (arith, nat_tests)
ascii_class CharRest b h e = absurd h
ascii_class Line b h e = absurd h

-- a character begins at each position in a run of ASCII bytes, and at its end
pub IsCharBoundary-run : (class : Class) (bs : List ℕ) (n : ℕ) → IsUtf8 bs → IsAsciiClass class → n ≤ prefix_len (class_test class) bs → IsCharBoundary bs n
IsCharBoundary-run class bs zero utf8 h run = IsCharBoundary-start bs utf8
IsCharBoundary-run class bs (suc n) utf8 h run =
    rw (← add-one) (IsCharBoundary-after_ascii bs n utf8 (omega (arith, prefix_len-le-length (class_test class) bs))
    (ascii_class class _ h (prefix_len_passes (class_test class) bs n 0 (omega arith))))

-- a byte other than 0 was read inside the text
pub within_from_byte : (xs : List ℕ) (i : ℕ) → 0 < get_or xs i 0 → i < length xs
within_from_byte xs i h = elim (cases_lt i (length xs)) [ inl within ↦ within | inr past ↦ absurd (omega (arith, get_or_past xs i 0 past)) ]

pub prefix_some : (p : ℕ → Bool) (text : List ℕ) → 0 < length text → p (get_or text 0 0) ≡ true → 0 < prefix_len p text
prefix_some p [] some e = absurd (omega arith)
prefix_some p (b ∷ bs) some e = rw e (omega arith)

-- after ASCII bytes a character begins
pub after_ascii : (text : List ℕ) (n : ℕ) → IsUtf8 text → n ≤ length text → ((k : ℕ) → k < n → get_or text k 0 < 128) → IsCharBoundary text n
after_ascii text zero utf8 within ascii = IsCharBoundary-start text utf8
after_ascii text (suc n) utf8 within ascii = rw (← add-one) (IsCharBoundary-after_ascii text n utf8 (omega arith) (ascii n (omega arith)))

-- a run of ASCII bytes from the front
pub run_boundary : (p : ℕ → Bool) (text : List ℕ) (n : ℕ) → IsUtf8 text → ((b : ℕ) → p b ≡ true → b < 128) → n ≤ prefix_len p text → IsCharBoundary text n
run_boundary p text n utf8 ascii run =
    after_ascii text n utf8 (omega (arith, prefix_len-le-length p text)) (λ k h. ascii _ (prefix_len_passes p text k 0 (omega arith)))
