-- A name or number that is cut off at the front of a text is cut off in the same way if its text is alone.
use Rattle.std.proofs.Common.{◌≡◌, ℕ, zero, suc, ◌+◌, ◌^◌, ◌<◌, ◌≤◌, Bool, true, false, not, cond, ◌&&◌, ◌||◌, ◌==◌, nat_lt, [], ◌∷◌, length, get_or}
use Rattle.std.proofs.Common.{take, drop, refl, sym, ap, ◌∙◌, subst, arith, inl, inr, length-drop, ltb-true, pos, negsuc}
use Rattle.std.specs.Bool.{⊤}
use Rattle.std.specs.List.{list_all, prefix_len}
use Rattle.std.specs.Str.Parse.{digits_value}
use Rattle.std.proofs.lemmas.Bool.{cases_lt, or_cases, and_parts, and_from, and_right, or_left, cond-true, cond-false}
use Rattle.std.proofs.lemmas.Bool.{false≢true, lt-ltb}
use Rattle.std.proofs.lemmas.Bool.Decides.{nat_tests}
use Rattle.std.proofs.lemmas.List.{drop-take, length-take-le, take_all}
use Rattle.std.proofs.lemmas.List.Sums.{prefix_len-le-length}
use Rattle.starlark_lexer.specs.Newlines.{first}
use Rattle.starlark_lexer.specs.Classes.{is_digit_of}
use Rattle.starlark_lexer.specs.Cuts.{token}
use Rattle.starlark_lexer.specs.Numbers.{base_of, integer, digits_len, fraction_len, sign_len, exponent_len, prefixed_len, number_cut}
use Rattle.starlark_lexer.specs.Numbers.{begins_number}
use Rattle.starlark_lexer.specs.Tokens.{Text, Terminal, Identifier, Int, Float, Bytes, small, large}
use Rattle.starlark_lexer.proofs.NumberLemmas.{list_all-run, digits_some}
use Rattle.starlark_lexer.proofs.TokenTexts.Numbers.{exponent_of, fraction_within, exponent_within, decimal_is}
use Rattle.starlark_lexer.proofs.TokenTexts.Numbers.{number_is, IsWhole, whole_number, begins_whole}
use Rattle.starlark_lexer.proofs.TokenTexts.WholeTexts.{Cuts, as_float, as_large}

abbrev pub is_byte : ℕ → Bool
is_byte b = nat_lt b 256

abbrev pub AreBytes : Text → Type 0
AreBytes text = list_all is_byte text ≡ true

-- A token that is read again if its text is alone: a name or number whose text is cut off as it, an integer of 31 bits, or bytes.
abbrev pub ReadsAlone : Terminal → Type 0
ReadsAlone (Identifier text) = Cuts text (Identifier text)
ReadsAlone (Int (small (pos n))) = n < 2 ^ 31
ReadsAlone (Int (small (negsuc n))) = ⊥
ReadsAlone (Int (large text)) = Cuts text (Int (large text))
ReadsAlone (Float text) = Cuts text (Float text)
ReadsAlone (Bytes bytes) = AreBytes bytes
ReadsAlone _ = ⊤

-- ---- runs in a text that is cut after them

run_kept : (b : Bool) (m k n : ℕ) → (k ≤ n → m ≡ k) → cond b (1 + k) 0 ≤ suc n → cond b (1 + m) 0 ≡ cond b (1 + k) 0
run_kept true m k n same h = ap (λ x. 1 + x) (same (omega arith))
run_kept false m k n same h = refl

take_run : (p : ℕ → Bool) (n : ℕ) (xs : Text) → prefix_len p xs ≤ n → prefix_len p (take n xs) ≡ prefix_len p xs
take_run p zero [] h = refl
take_run p (suc n) [] h = refl
take_run p zero (x ∷ xs) h = omega arith
take_run p (suc n) (x ∷ xs) h = run_kept (p x) (prefix_len p (take n xs)) (prefix_len p xs) n (take_run p n xs) h

shorter : (b : Bool) (m k : ℕ) → m ≤ k → cond b (1 + m) 0 ≤ cond b (1 + k) 0
shorter true m k h = omega arith
shorter false m k h = omega arith

take_shorter : (p : ℕ → Bool) (n : ℕ) (xs : Text) → prefix_len p (take n xs) ≤ prefix_len p xs
take_shorter p zero [] = omega arith
take_shorter p (suc n) [] = omega arith
take_shorter p zero (x ∷ xs) = omega arith
take_shorter p (suc n) (x ∷ xs) = shorter (p x) (prefix_len p (take n xs)) (prefix_len p xs) (take_shorter p n xs)

fraction_kept : (n : ℕ) (xs : Text) → fraction_len xs ≤ n → fraction_len (take n xs) ≡ fraction_len xs
fraction_kept zero [] h = refl
fraction_kept (suc n) [] h = refl
fraction_kept zero (x ∷ xs) h = omega arith
fraction_kept (suc n) (x ∷ xs) h = run_kept (x == 46) (digits_len 10 (take n xs)) (digits_len 10 xs) n (take_run (is_digit_of 10) n xs) h

sign_kept : (n : ℕ) (xs : Text) → 0 < n → sign_len (take n xs) ≡ sign_len xs
sign_kept zero xs h = absurd (omega arith)
sign_kept (suc n) [] h = refl
sign_kept (suc n) (x ∷ xs) h = refl

exponent_cut : (c : ℕ) (cs : Text) (b : Bool) → ((c == 101 || c == 69) && nat_lt 0 (digits_len 10 (drop (sign_len cs) cs))) ≡ b
    → exponent_len (take (exponent_len (c ∷ cs)) (c ∷ cs)) ≡ exponent_len (c ∷ cs)
exponent_cut c cs true is =
    let s = sign_len cs in
    let k = digits_len 10 (drop s cs) in
    let some : 0 < k = ltb-true 0 k (and_parts (c == 101 || c == 69) (nat_lt 0 k) is).1 in
    let len : exponent_len (c ∷ cs) ≡ suc (s + k) = cond-true ((c == 101 || c == 69) && nat_lt 0 k) (1 + s + k) 0 is ∙ omega arith in
    let sign = sign_kept (s + k) cs (omega arith) in
    let digits : digits_len 10 (drop (sign_len (take (s + k) cs)) (take (s + k) cs)) ≡ k =
    ap (λ m. digits_len 10 (drop m (take (s + k) cs))) sign ∙ ap (digits_len 10) (drop-take s k cs) ∙ take_run (is_digit_of 10) k (drop s cs) (omega arith) in
    ap (λ m. exponent_len (take m (c ∷ cs))) len ∙ (λ i. exponent_of c (sign i) (digits i))
exponent_cut c cs false is =
    let len : exponent_len (c ∷ cs) ≡ 0 = cond-false ((c == 101 || c == 69) && nat_lt 0 (digits_len 10 (drop (sign_len cs) cs))) _ 0 is in
    ap (λ m. exponent_len (take m (c ∷ cs))) len ∙ sym len

exponent_kept : (xs : Text) → exponent_len (take (exponent_len xs) xs) ≡ exponent_len xs
exponent_kept [] = refl
exponent_kept (c ∷ cs) = exponent_cut c cs ((c == 101 || c == 69) && nat_lt 0 (digits_len 10 (drop (sign_len cs) cs))) refl

kept_shorter : (b : Bool) (m k : ℕ) → m ≤ k → cond b m 0 ≤ cond b k 0
kept_shorter true m k h = omega arith
kept_shorter false m k h = omega arith

-- a text of one byte has no prefix
alone_unprefixed : (x : ℕ) → prefixed_len (x ∷ []) ≡ 0
alone_unprefixed x = cond-false (x == 48 && not (base_of 0 == 10)) _ 0 (and_right (x == 48) _ refl)

prefixed_shorter : (n : ℕ) (text : Text) → prefixed_len (take n text) ≤ prefixed_len text
prefixed_shorter zero text = omega arith
prefixed_shorter (suc n) [] = omega arith
prefixed_shorter (suc zero) (x ∷ xs) = let none = alone_unprefixed x in omega arith
prefixed_shorter (suc (suc n)) (x ∷ []) = omega arith
prefixed_shorter (suc (suc n)) (x ∷ (y ∷ ys)) =
    kept_shorter (x == 48 && not (base_of y == 10)) (digits_len (base_of y) (take n ys)) (digits_len (base_of y) ys)
    (take_shorter (is_digit_of (base_of y)) n ys)

-- ---- a number still begins

begins_kept : (n : ℕ) (text : Text) → begins_number text ≡ true → 0 < n → (n ≡ 1 → is_digit_of 10 (first text) ≡ true) → begins_number (take n text) ≡ true
begins_kept zero text e some one = absurd (omega arith)
begins_kept (suc n) [] e some one = absurd (false≢true e)
begins_kept (suc zero) (x ∷ xs) e some one = or_left (is_digit_of 10 x) (x == 46 && false) (one refl)
begins_kept (suc (suc n)) (x ∷ []) e some one = e
begins_kept (suc (suc n)) (x ∷ (y ∷ ys)) e some one = e

run_some : (p : ℕ → Bool) (x : ℕ) (xs : Text) → p x ≡ true → 0 < prefix_len p (x ∷ xs)
run_some p x xs on = let is = cond-true (p x) (1 + prefix_len p xs) 0 on in omega arith

point_no_digit : (x : ℕ) → (x == 46) ≡ true → is_digit_of 10 x ≡ false
point_no_digit x e = grind (arith, nat_tests)

-- a number that begins with a point has a digit after it
record HasPoint (text : Text) : Type 0 where
  none : digits_len 10 text ≡ 0
  fraction : 2 ≤ fraction_len text

has_point : (text : Text) → (first text == 46 && is_digit_of 10 (get_or text 1 0)) ≡ true → HasPoint text
has_point [] e = absurd (false≢true e)
has_point (x ∷ []) e = absurd (false≢true (sym (and_right (x == 46) false refl) ∙ e))
has_point (x ∷ (y ∷ ys)) e =
    let parts = and_parts (x == 46) (is_digit_of 10 y) e in
    let some = run_some (is_digit_of 10) y ys parts.1 in
    let long : fraction_len (x ∷ y ∷ ys) ≡ 1 + digits_len 10 (y ∷ ys) = cond-true (x == 46) (1 + digits_len 10 (y ∷ ys)) 0 parts.0 in
    record { none = cond-false (is_digit_of 10 x) (1 + digits_len 10 (y ∷ ys)) 0 (point_no_digit x parts.0); fraction = omega arith }

begins_some : (text : Text) → begins_number text ≡ true → 0 < length text
begins_some [] e = absurd (false≢true e)
begins_some (x ∷ xs) e = omega arith

-- ---- floats

pub float_alone : (text : Text) (d f e : ℕ) → digits_len 10 text ≡ d → fraction_len (drop d text) ≡ f → exponent_len (drop f (drop d text)) ≡ e
    → begins_number text ≡ true → prefixed_len text ≡ 0 → 0 < f + e → ReadsAlone (Float (take (d + f + e) text))
float_alone text d f e is_d is_f is_e begins unprefixed some =
    let n = d + f + e in
    let w = take n text in
    let within_d : d ≤ length text = rw (sym is_d) (prefix_len-le-length (is_digit_of 10) text) in
    let within_f : f ≤ length (drop d text) = rw (sym is_f) (fraction_within (drop d text)) in
    let within_e : e ≤ length (drop f (drop d text)) = rw (sym is_e) (exponent_within (drop f (drop d text))) in
    let within : n ≤ length text = omega (arith, length-drop d text, length-drop f (drop d text)) in
    let long : length w ≡ n = length-take-le n text within in
    let parts : w ≡ take (d + (f + e)) text = ap (λ m. take m text) (omega arith) in
    let digits : digits_len 10 w ≡ d = take_run (is_digit_of 10) n text (omega arith) ∙ is_d in
    let after_d : drop d w ≡ take (f + e) (drop d text) = ap (drop d) parts ∙ drop-take d (f + e) text in
    let fraction : fraction_len (drop d w) ≡ f = ap fraction_len after_d ∙ fraction_kept (f + e) (drop d text) (omega arith) ∙ is_f in
    let after_f : drop f (drop d w) ≡ take e (drop f (drop d text)) = ap (drop f) after_d ∙ drop-take f e (drop d text) in
    let exponent : exponent_len (drop f (drop d w)) ≡ e =
    ap exponent_len after_f ∙ ap (λ m. exponent_len (take m (drop f (drop d text)))) (sym is_e) ∙ exponent_kept (drop f (drop d text)) ∙ is_e in
    let none : prefixed_len w ≡ 0 = let less = prefixed_shorter n text in omega arith in
    let cut : number_cut w ≡ token (Float w) (length w) =
    number_is w 0 none ∙ decimal_is w d f e digits fraction exponent ∙ cond-true (nat_lt 0 (f + e)) _ _ (lt-ltb 0 (f + e) some)
    ∙ (λ i. token (Float (take_all n w (omega arith) i)) (sym long i)) in
    let still : begins_number w ≡ true =
    begins_kept n text begins (omega arith) (λ one. elim (or_cases (is_digit_of 10 (first text)) _ begins) [
      | inl digit ↦ digit
      | inr point ↦
          let h = has_point text point in
          let no_digits : d ≡ 0 = sym is_d ∙ h.none in
          let same : fraction_len text ≡ f = ap (λ m. fraction_len (drop m text)) (sym no_digits) ∙ is_f in
          let high = h.fraction in absurd (omega arith)
    ]) in
    as_float still cut

-- ---- whole numbers

integer_alone : (base : ℕ) (ds w : Text) → begins_number w ≡ true → number_cut w ≡ token (Int (integer base ds w)) (length w)
    → ReadsAlone (Int (integer base ds w))
unfolding integer
integer_alone base ds w begins cut = go (nat_lt (digits_value base ds) (2 ^ 31)) refl cut
  where
    go : (b : Bool) → nat_lt (digits_value base ds) (2 ^ 31) ≡ b → number_cut w
        ≡ token (Int (cond b (small (pos (digits_value base ds))) (large w))) (length w)
        → ReadsAlone (Int (cond b (small (pos (digits_value base ds))) (large w)))
    go true is cut_is = ltb-true (digits_value base ds) (2 ^ 31) is
    go false is cut_is = as_large begins cut_is

pub decimal_alone : (text : Text) (d : ℕ) → digits_len 10 text ≡ d → fraction_len (drop d text) ≡ 0 → begins_number text ≡ true
    → (first (take d text) == 48 && nat_lt 1 (length (take d text))) ≡ false → ReadsAlone (Int (integer 10 (take d text) (take d text)))
decimal_alone text d is_d none begins leading =
    let ds = take d text in
    let within : d ≤ length text = rw (sym is_d) (prefix_len-le-length (is_digit_of 10) text) in
    let some : 0 < d = rw (sym is_d) (digits_some text (begins_some text begins) begins (rw is_d none)) in
    let long : length ds ≡ d = length-take-le d text within in
    let h : IsWhole ds = record {
      some = omega arith;
      all = rw (sym is_d) (list_all-run (is_digit_of 10) text);
      first = λ zero_first. elim (cases_lt 1 (length ds)) [
        | inl more ↦ absurd (false≢true (sym leading ∙ and_from (first ds == 48) _ (rw zero_first refl) (lt-ltb 1 (length ds) more)))
        | inr one ↦ omega arith
      ];
    } in
    integer_alone 10 ds ds (begins_whole ds h) (whole_number ds h)

pub prefixed_alone : (text : Text) (n : ℕ) → prefixed_len text ≡ n → 0 < n → begins_number text ≡ true
    → ReadsAlone (Int (integer (base_of (get_or text 1 0)) (take n (drop 2 text)) (take (2 + n) text)))
prefixed_alone [] n is some begins = absurd (false≢true begins)
prefixed_alone (x ∷ []) n is some begins = let none = alone_unprefixed x in absurd (omega arith)
prefixed_alone (x ∷ (y ∷ ys)) n is some begins = go (x == 48 && not (base_of y == 10)) refl
  where
    go : (b : Bool) → (x == 48 && not (base_of y == 10)) ≡ b → ReadsAlone (Int (integer (base_of y) (take n ys) (take (2 + n) (x ∷ y ∷ ys))))
    go true on =
        let run : digits_len (base_of y) ys ≡ n = sym (cond-true (x == 48 && not (base_of y == 10)) (digits_len (base_of y) ys) 0 on) ∙ is in
        let within : n ≤ length ys = rw (sym run) (prefix_len-le-length (is_digit_of (base_of y)) ys) in
        let long : length (take n ys) ≡ n = length-take-le n ys within in
        let two : 2 + n ≡ suc (suc n) = omega arith in
        let same : take (2 + n) (x ∷ y ∷ ys) ≡ x ∷ y ∷ take n ys = ap (λ m. take m (x ∷ y ∷ ys)) two in
        let kept : digits_len (base_of y) (take n ys) ≡ n = take_run (is_digit_of (base_of y)) n ys (omega arith) ∙ run in
        let prefixed : prefixed_len (x ∷ y ∷ take n ys) ≡ n = cond-true (x == 48 && not (base_of y == 10)) (digits_len (base_of y) (take n ys)) 0 on ∙ kept in
        let whole : take (2 + n) (x ∷ y ∷ take n ys) ≡ x ∷ y ∷ take n ys = take_all (2 + n) (x ∷ y ∷ take n ys) (omega arith) in
        let lengths : 2 + n ≡ length (x ∷ y ∷ take n ys) = omega arith in
        let cut : number_cut (x ∷ y ∷ take n ys) ≡ token (Int (integer (base_of y) (take n ys) (x ∷ y ∷ take n ys))) (length (x ∷ y ∷ take n ys)) =
        number_is (x ∷ y ∷ take n ys) n prefixed ∙ cond-true (nat_lt 0 n) _ _ (lt-ltb 0 n some)
        ∙ (λ i. token (Int (integer (base_of y) (take_all n (take n ys) (omega arith) i) (whole i))) (lengths i)) in
        subst (λ t. ReadsAlone (Int (integer (base_of y) (take n ys) t))) (sym same) (integer_alone (base_of y) (take n ys) (x ∷ y ∷ take n ys) begins cut)
    go false on = let none = cond-false (x == 48 && not (base_of y == 10)) (digits_len (base_of y) ys) 0 on in absurd (omega arith)
