-- Numbers at the front of a text.
use Rattle.std.proofs.Common.{◌≡◌, ℕ, ◌+◌, ◌^◌, ◌<◌, ◌≤◌, Bool, true, false, not, cond, ◌&&◌, ◌||◌, ◌==◌, nat_lt, [], ◌∷◌, ◌++◌, length, get_or, take, drop}
use Rattle.std.proofs.Common.{None, refl, sym, ap, ◌∙◌, arith, inl, inr, length-append, length-drop, eqb-true, pos}
use Rattle.std.specs.List.{list_all, prefix_len}
use Rattle.std.specs.Char.{digit_value}
use Rattle.std.specs.Fmt.{decimal}
use Rattle.std.specs.Str.Parse.{AllDigits, digits_value}
use Rattle.std.proofs.lemmas.Bool.{cases_lt, cases_eq, or_cases, false≢true, and_from, and_parts, and_left, and_right, cond_both, cond-true, cond-false}
use Rattle.std.proofs.lemmas.Bool.{or_from, or_left, ne_eqb, lt-ltb, le-ltb}
use Rattle.std.proofs.lemmas.Bool.Decides.{nat_tests}
use Rattle.std.proofs.lemmas.List.{take-append-le, drop-append-le}
use Rattle.std.proofs.lemmas.List.Sums.{prefix_len-le-length}
use Rattle.std.proofs.Math.Seq.{take-length, drop-length}
use Rattle.std.proofs.lemmas.Fmt.{decimal_is_IsNumeral, first_decimal, decimal_nonempty, decimal_digit}
use Rattle.starlark_lexer.specs.Newlines.{first, newline_len}
use Rattle.starlark_lexer.specs.Classes.{is_letter, is_name_byte, is_digit_of}
use Rattle.starlark_lexer.specs.Cuts.{Cut, token, is_gap}
use Rattle.starlark_lexer.specs.Numbers.{base_of, integer, digits_len, fraction_len, sign_len, exponent_len, prefixed_len, integer_cut, decimal_cut}
use Rattle.starlark_lexer.specs.Numbers.{prefixed_cut, number_cut, begins_number}
use Rattle.starlark_lexer.specs.Openings.{opening, is_quote}
use Rattle.starlark_lexer.specs.Tokens.{Text, Terminal, small, Int, Float}
use Rattle.starlark_lexer.specs.Lexemes.{take_cut, opens, closes}
use Rattle.starlark_lexer.proofs.StepLemmas.{plain-number, sign_taken}
use Rattle.starlark_lexer.proofs.TokenTexts.LineTokens.{Solid, Given, solid_unbroken}
use Rattle.starlark_lexer.proofs.TokenTexts.Operators.{opening_none}

-- what may follow a number
pub record EndsNumber (rest : Text) : Type 0 where
  pub no_name : is_name_byte (first rest) ≡ false
  pub no_point : (first rest == 46) ≡ false
  pub no_plus : (first rest == 43) ≡ false
  pub no_minus : (first rest == 45) ≡ false

no_digit : (base b : ℕ) → base ≤ 36 → is_name_byte b ≡ false → is_digit_of base b ≡ false
no_digit base b high e = grind (arith, nat_tests)

-- a run is not longer if what follows is not in its class
run_same : (p : ℕ → Bool) (xs rest : Text) → p (first rest) ≡ false → prefix_len p (xs ++ rest) ≡ prefix_len p xs
run_same p [] [] other = refl
run_same p [] (b ∷ bs) other = cond-false (p b) _ 0 other
run_same p (x ∷ xs) rest other = ap (λ n. cond (p x) (1 + n) 0) (run_same p xs rest other)

digits_same : (base : ℕ) (xs rest : Text) → base ≤ 36 → EndsNumber rest → digits_len base (xs ++ rest) ≡ digits_len base xs
digits_same base xs rest high ends = run_same (is_digit_of base) xs rest (no_digit base (first rest) high ends.no_name)

fraction_same : (xs rest : Text) → EndsNumber rest → fraction_len (xs ++ rest) ≡ fraction_len xs
fraction_same [] rest ends = cond-false (first rest == 46) _ 0 ends.no_point
fraction_same (x ∷ xs) rest ends = ap (λ n. cond (x == 46) (1 + n) 0) (digits_same 10 xs rest (omega arith) ends)

sign_same : (xs rest : Text) → EndsNumber rest → sign_len (xs ++ rest) ≡ sign_len xs
sign_same [] rest ends = cond-false (first rest == 43 || first rest == 45) 1 0 (or_from _ _ ends.no_plus ends.no_minus)
sign_same (x ∷ xs) rest ends = refl

no_exponent : (b : ℕ) → is_name_byte b ≡ false → (b == 101 || b == 69) ≡ false
no_exponent b e = grind (arith, nat_tests)

sign_within : (xs : Text) → sign_len xs ≤ length xs
sign_within [] = omega arith
sign_within (x ∷ xs) = cond_both (x == 43 || x == 45) 1 0 (λ n. n ≤ length (x ∷ xs)) (λ _. omega arith) (λ _. omega arith)

abbrev pub exponent_of : ℕ → ℕ → ℕ → ℕ
exponent_of x sign digits = cond ((x == 101 || x == 69) && nat_lt 0 digits) (1 + sign + digits) 0

exponent_same : (xs rest : Text) → EndsNumber rest → exponent_len (xs ++ rest) ≡ exponent_len xs
exponent_same [] rest ends = cond-false _ _ 0 (and_left (first rest == 101 || first rest == 69) _ (no_exponent (first rest) ends.no_name))
exponent_same (x ∷ xs) rest ends =
    let sign = sign_same xs rest ends in
    let digits : digits_len 10 (drop (sign_len (xs ++ rest)) (xs ++ rest)) ≡ digits_len 10 (drop (sign_len xs) xs) =
    ap (λ k. digits_len 10 (drop k (xs ++ rest))) sign ∙ ap (digits_len 10) (drop-append-le (sign_len xs) xs rest (sign_within xs))
    ∙ digits_same 10 (drop (sign_len xs) xs) rest (omega arith) ends in
    (λ i. exponent_of x (sign i) (digits i))

base_high : (b : ℕ) → base_of b ≤ 36
base_high b =
    cond_both (b == 120 || b == 88) 16 _ (λ n. n ≤ 36) (λ _. omega arith)
    (λ _. cond_both (b == 111 || b == 79) 8 _ (λ n. n ≤ 36) (λ _. omega arith)
    (λ _. cond_both (b == 98 || b == 66) 2 10 (λ n. n ≤ 36) (λ _. omega arith) (λ _. omega arith)))

no_base : (b : ℕ) → is_name_byte b ≡ false → base_of b ≡ 10
no_base b e = grind (arith, nat_tests)

-- the second byte of a number names the same base
base_same : (x : ℕ) (xs rest : Text) → EndsNumber rest → base_of (get_or (xs ++ rest) 0 0) ≡ base_of (get_or xs 0 0)
base_same x [] rest ends = no_base (first rest) ends.no_name
base_same x (y ∷ ys) rest ends = refl

abbrev pub prefixed_of : ℕ → ℕ → ℕ → ℕ
prefixed_of x base digits = cond (x == 48 && not (base == 10)) digits 0

prefixed_same : (text rest : Text) → 0 < length text → EndsNumber rest → prefixed_len (text ++ rest) ≡ prefixed_len text
prefixed_same [] rest some ends = absurd (omega arith)
prefixed_same (x ∷ []) rest some ends =
    cond-false _ _ 0 (and_right (x == 48) _ (ap (λ base. not (base == 10)) (no_base (first rest) ends.no_name)))
    ∙ sym (cond-false _ _ 0 (and_right (x == 48) _ refl))
prefixed_same (x ∷ (y ∷ ys)) rest some ends = ap (prefixed_of x (base_of y)) (digits_same (base_of y) ys rest (base_high y) ends)

pub prefixed_within : (text : Text) → 0 < prefixed_len text → 2 + prefixed_len text ≤ length text
prefixed_within [] h = absurd (omega arith)
prefixed_within (x ∷ []) h =
    let none : prefixed_len (x ∷ []) ≡ 0 = cond-false _ _ 0 (and_right (x == 48) _ refl) in absurd (omega arith)
prefixed_within (x ∷ (y ∷ ys)) h =
    let most : prefixed_len (x ∷ y ∷ ys) ≤ length ys =
    cond_both (x == 48 && not (base_of y == 10)) (digits_len (base_of y) ys) 0 (λ n. n ≤ length ys)
    (λ _. prefix_len-le-length (is_digit_of (base_of y)) ys) (λ _. omega arith) in
    omega arith

pub fraction_within : (xs : Text) → fraction_len xs ≤ length xs
fraction_within [] = omega arith
fraction_within (x ∷ xs) =
    cond_both (x == 46) (1 + digits_len 10 xs) 0 (λ n. n ≤ length (x ∷ xs)) (λ _. omega (arith, prefix_len-le-length (is_digit_of 10) xs)) (λ _. omega arith)

pub exponent_within : (xs : Text) → exponent_len xs ≤ length xs
exponent_within [] = omega arith
exponent_within (x ∷ xs) =
    let sign = sign_within xs in
    let k = digits_len 10 (drop (sign_len xs) xs) in
    let digits = prefix_len-le-length (is_digit_of 10) (drop (sign_len xs) xs) in
    cond_both ((x == 101 || x == 69) && nat_lt 0 k) (1 + sign_len xs + k) 0 (λ n. n ≤ length (x ∷ xs))
    (λ _. omega (arith, length-drop (sign_len xs) xs)) (λ _. omega arith)

prefixed_cut_same : (digits : ℕ) (text rest : Text) → 2 + digits ≤ length text → prefixed_cut digits (text ++ rest) ≡ prefixed_cut digits text
prefixed_cut_same digits [] rest h = absurd (omega arith)
prefixed_cut_same digits (x ∷ []) rest h = absurd (omega arith)
prefixed_cut_same digits (x ∷ (y ∷ ys)) rest h =
    let front = take-append-le digits ys rest (omega arith) in
    let whole = take-append-le (2 + digits) (x ∷ y ∷ ys) rest h in
    (λ i. token (Int (integer (base_of y) (front i) (whole i))) (2 + digits))

abbrev pub decimal_of : ℕ → ℕ → ℕ → Text → Text → Cut
decimal_of d f e whole digits = cond (nat_lt 0 (f + e)) (token (Float whole) (d + f + e)) (integer_cut digits)

pub decimal_is : (text : Text) (d f e : ℕ) → digits_len 10 text ≡ d → fraction_len (drop d text) ≡ f → exponent_len (drop f (drop d text)) ≡ e
    → decimal_cut text ≡ decimal_of d f e (take (d + f + e) text) (take d text)
unfolding decimal_cut
decimal_is text d f e is_d is_f is_e = rw (is_d, is_f, is_e) refl

decimal_same : (text rest : Text) → EndsNumber rest → decimal_cut (text ++ rest) ≡ decimal_cut text
decimal_same text rest ends =
    let d = digits_len 10 text in
    let f = fraction_len (drop d text) in
    let e = exponent_len (drop f (drop d text)) in
    let within_d : d ≤ length text = prefix_len-le-length (is_digit_of 10) text in
    let within_f : f ≤ length (drop d text) = fraction_within (drop d text) in
    let within_e : e ≤ length (drop f (drop d text)) = exponent_within (drop f (drop d text)) in
    let all : d + f + e ≤ length text = omega (arith, length-drop d text, length-drop f (drop d text)) in
    let after_d : drop d (text ++ rest) ≡ drop d text ++ rest = drop-append-le d text rest within_d in
    let after_f : drop f (drop d (text ++ rest)) ≡ drop f (drop d text) ++ rest = ap (drop f) after_d ∙ drop-append-le f (drop d text) rest within_f in
    decimal_is (text ++ rest) d f e (digits_same 10 text rest (omega arith) ends) (ap fraction_len after_d ∙ fraction_same (drop d text) rest ends)
    (ap exponent_len after_f ∙ exponent_same (drop f (drop d text)) rest ends)
    ∙ (λ i. decimal_of d f e (take-append-le (d + f + e) text rest all i) (take-append-le d text rest within_d i))
    ∙ sym (decimal_is text d f e refl refl refl)

pub number_is : (text : Text) (digits : ℕ) → prefixed_len text ≡ digits → number_cut text
    ≡ cond (nat_lt 0 digits) (prefixed_cut digits text) (decimal_cut text)
unfolding number_cut
number_is text digits is = rw is refl

-- a number is the same if what follows ends it
pub number_same : (text rest : Text) → 0 < length text → EndsNumber rest → number_cut (text ++ rest) ≡ number_cut text
number_same text rest some ends =
    let digits = prefixed_len text in
    number_is (text ++ rest) digits (prefixed_same text rest some ends)
    ∙ elim (cases_lt 0 digits) [
      | inl more ↦ cond-true (nat_lt 0 digits) _ _ (lt-ltb 0 digits more) ∙ prefixed_cut_same digits text rest (prefixed_within text more)
          ∙ sym (cond-true (nat_lt 0 digits) _ (decimal_cut text) (lt-ltb 0 digits more))
      | inr none ↦ cond-false (nat_lt 0 digits) _ _ (le-ltb 0 digits none) ∙ decimal_same text rest ends
          ∙ sym (cond-false (nat_lt 0 digits) (prefixed_cut digits text) _ (le-ltb 0 digits none))
    ]
    ∙ sym (number_is text digits refl)

-- ---- a number at the front of a text

begins_before : (text rest : Text) → begins_number text ≡ true → begins_number (text ++ rest) ≡ true
begins_before [] rest e = cc
begins_before (x ∷ []) rest e =
    elim (or_cases (is_digit_of 10 x) (x == 46 && false) e) [
      | inl digit ↦ or_left (is_digit_of 10 x) (x == 46 && is_digit_of 10 (first rest)) digit
      | inr point ↦ absurd (false≢true (sym (and_right (x == 46) false refl) ∙ point))
    ]
begins_before (x ∷ (y ∷ ys)) rest e = e

number_some : (text : Text) → begins_number text ≡ true → 0 < length text
number_some [] e = cc
number_some (x ∷ xs) e = omega arith

-- a digit or a point
record IsFirst (a : ℕ) : Type 0 where
  r : (a == 114) ≡ false
  b : (a == 98) ≡ false
  f : (a == 102) ≡ false
  quote : is_quote a ≡ false
  gap : is_gap a ≡ false
  comment : a ≡ 35 → ⊥
  letter : is_letter a ≡ false
  curly : (a == 125) ≡ false
  bang : (a == 33) ≡ false
  bracket : (opens a || closes a) ≡ false

digit_range : (a : ℕ) → is_digit_of 10 a ≡ true → (48 ≤ a) × (a ≤ 57)
digit_range a e = grind (arith, nat_tests)

in_range : (a : ℕ) → 46 ≤ a → a ≤ 57 → IsFirst a
in_range a low high = record {
  r = ne_eqb a 114 (λ same. omega arith);
  b = ne_eqb a 98 (λ same. omega arith);
  f = ne_eqb a 102 (λ same. omega arith);
  quote = grind (arith, nat_tests);
  gap = grind (arith, nat_tests);
  comment = λ same. omega arith;
  letter = grind (arith, nat_tests);
  curly = ne_eqb a 125 (λ same. omega arith);
  bang = ne_eqb a 33 (λ same. omega arith);
  bracket = grind (arith, nat_tests);
}

first_of_number : (text : Text) → begins_number text ≡ true → IsFirst (first text)
first_of_number text e =
    elim (or_cases _ _ e) [
      | inl digit ↦ let range = digit_range (first text) digit in in_range (first text) (omega arith) (omega arith)
      | inr point ↦ let same = eqb-true (first text) 46 (and_parts (first text == 46) _ point).0 in in_range (first text) (omega arith) (omega arith)
    ]

opening_none_of : (text : Text) → 0 < length text → IsFirst (first text) → opening text ≡ None
opening_none_of [] some h = absurd (omega arith)
opening_none_of (a ∷ text) some h = opening_none a text h.r h.b h.f h.quote

pub number_given : (text rest : Text) (t : Terminal) → begins_number text ≡ true → number_cut text ≡ token t (length text) → EndsNumber rest
    → Given text rest t
number_given text rest t begins cut ends =
    let some = number_some text begins in
    let whole = text ++ rest in
    let begins_whole = begins_before text rest begins in
    let h = first_of_number whole begins_whole in
    let solid : Solid whole = record { some = omega (arith, length-append text rest); no_gap = h.gap } in
    record {
      some = some;
      solid = solid;
      no_hole_end = h.curly;
      no_bang = and_left (first whole == 33) _ h.bang;
      given = λ s is.
          plain-number s (sym (ap opening is ∙ opening_none_of whole solid.some h)) (ap newline_len is ∙ solid_unbroken whole solid)
          (λ same. h.comment (sym (ap first is) ∙ same))
          (ap (λ x. is_letter (first x)) is ∙ h.letter) (ap begins_number is ∙ begins_whole)
          ∙ ap (take_cut s) (ap number_cut is ∙ number_same text rest some ends ∙ cut)
          ∙ sign_taken s (length text) t (ap newline_len is ∙ solid_unbroken whole solid) (ap (λ x. opens (first x) || closes (first x)) is ∙ h.bracket);
    }

-- ---- decimal integers

all_run : (p : ℕ → Bool) (xs : Text) → list_all p xs ≡ true → prefix_len p xs ≡ length xs
all_run p [] e = refl
all_run p (x ∷ xs) e =
    let parts = and_parts (p x) (list_all p xs) e in
    let more = all_run p xs parts.1 in
    cond-true (p x) (1 + prefix_len p xs) 0 parts.0 ∙ omega arith

digits_pass : (ds : Text) → AllDigits 10 ds → list_all (is_digit_of 10) ds ≡ true
digits_pass [] h = refl
digits_pass (d ∷ ds) h = and_from (is_digit_of 10 d) _ (lt-ltb (digit_value d) 10 h.0) (digits_pass ds h.1)

-- only digits, the first of which is not 0 unless it is the only one
pub record IsWhole (ds : Text) : Type 0 where
  pub some : 0 < length ds
  pub all : list_all (is_digit_of 10) ds ≡ true
  pub first : first ds ≡ 48 → length ds ≡ 1

no_leading : (ds : Text) → IsWhole ds → (first ds == 48 && nat_lt 1 (length ds)) ≡ false
no_leading ds h =
    elim (cases_eq (first ds) 48) [
      | inl same ↦ let one = h.first same in and_right (first ds == 48) _ (le-ltb 1 (length ds) (omega arith))
      | inr other ↦ and_left (first ds == 48) _ (ne_eqb (first ds) 48 other)
    ]

whole_cut : (ds : Text) → IsWhole ds → integer_cut ds ≡ token (Int (integer 10 ds ds)) (length ds)
unfolding integer_cut
whole_cut ds h = cond-false _ _ _ (no_leading ds h)

whole_prefixed : (ds : Text) → IsWhole ds → prefixed_len ds ≡ 0
whole_prefixed [] h = refl
whole_prefixed (x ∷ []) h = cond-false _ _ 0 (and_right (x == 48) _ refl)
whole_prefixed (x ∷ (y ∷ ys)) h = cond-false _ _ 0 (and_left (x == 48) _ (ne_eqb x 48 (λ same. let one = h.first same in omega arith)))

pub whole_number : (ds : Text) → IsWhole ds → number_cut ds ≡ token (Int (integer 10 ds ds)) (length ds)
whole_number ds h =
    let n = length ds in
    let none : drop n ds ≡ [] = drop-length ds in
    number_is ds 0 (whole_prefixed ds h)
    ∙ decimal_is ds n 0 0 (all_run (is_digit_of 10) ds h.all) (ap fraction_len none) (ap exponent_len none) ∙ ap integer_cut (take-length ds) ∙ whole_cut ds h

small_value : (n : ℕ) (ds : Text) → digits_value 10 ds ≡ n → n < 2 ^ 31 → integer 10 ds ds ≡ small (pos n)
unfolding integer
small_value n ds is less = rw is (cond-true (nat_lt n (2 ^ 31)) _ _ (lt-ltb n (2 ^ 31) less))

decimal_whole : (n : ℕ) → n < 2 ^ 31 → IsWhole (decimal n)
decimal_whole n less =
    let h : n < 2 ^ 64 = omega arith in
    record {
      some = decimal_nonempty n h;
      all = digits_pass (decimal n) (decimal_is_IsNumeral n h).0.1;
      first = λ same.
          elim (cases_lt 0 n) [
            | inl more ↦ let high = first_decimal n more h in absurd (omega arith)
            | inr none ↦ ap length (decimal_digit n (omega arith))
          ];
    }

pub begins_whole : (ds : Text) → IsWhole ds → begins_number ds ≡ true
begins_whole [] h = let some = h.some in absurd (omega arith)
begins_whole (d ∷ ds) h = or_left (is_digit_of 10 d) _ (and_parts (is_digit_of 10 d) (list_all (is_digit_of 10) ds) h.all).0

pub decimal_given : (n : ℕ) (rest : Text) → n < 2 ^ 31 → EndsNumber rest → Given (decimal n) rest (Int (small (pos n)))
decimal_given n rest less ends =
    let h = decimal_whole n less in
    number_given (decimal n) rest (Int (small (pos n))) (begins_whole (decimal n) h)
    (whole_number (decimal n) h ∙ ap (λ i. token (Int i) (length (decimal n))) (small_value n (decimal n) (decimal_is_IsNumeral n (omega arith)).1 less)) ends
