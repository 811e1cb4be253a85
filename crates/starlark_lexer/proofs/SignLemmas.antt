-- The operator or punctuation of the bytes at the front of a text.
use Rattle.std.proofs.Common.{◌≡◌, ℕ, zero, suc, ◌<◌, ◌≤◌, Bool, true, false, ◌&&◌, nat_le, inl, inr, [], ◌∷◌, length, take, get_or, None, refl, sym, ap, ◌∙◌}
use Rattle.std.proofs.Common.{arith}
use Rattle.std.proofs.lemmas.Bool.{cases_lt, cond-true, cond-false}
use Rattle.std.proofs.lemmas.Bool.Decides.{nat_tests}
use Rattle.std.proofs.lemmas.List.{get_or_past}
use Rattle.std.proofs.lemmas.List.Sums.{prefix_len-le-length, prefix_len_stops}
use Rattle.std.specs.List.{prefix_len}
use Rattle.starlark_lexer.specs.declared.token.LexerErrorKind.TheVariants as kinds
use Rattle.starlark_lexer.specs.Tokens.{Text}
use Rattle.starlark_lexer.specs.Classes.{is_sign_byte}
use Rattle.starlark_lexer.specs.Words.{sign, signs}
use Rattle.starlark_lexer.specs.Cuts.{refused}
use Rattle.starlark_lexer.specs.Lexing.{char_len, sign_at, sign_or, sign_cut}
use Rattle.starlark_lexer.proofs.WordLemmas.{none_passes}

abbrev all_signs : Text → Bool
all_signs [] = true
all_signs (b ∷ bs) = is_sign_byte b && all_signs bs

sign_bytes : (text : Text) → all_signs text ≡ false → sign text ≡ None
unfolding sign
sign_bytes text e = none_passes all_signs text signs refl e

-- the byte after a run of operator bytes is not one, nor is the 0 past the end
run_stops : (text : Text) → is_sign_byte (get_or text (prefix_len is_sign_byte text) 0) ≡ false
run_stops text =
    elim (cases_lt (prefix_len is_sign_byte text) (length text)) [
      | inl within ↦ prefix_len_stops is_sign_byte text 0 within
      | inr past ↦ ap is_sign_byte (get_or_past text (prefix_len is_sign_byte text) 0 past)
    ]

second_false : (a c : Bool) → a && (false && c) ≡ false
second_false true c = refl
second_false false c = refl

third_false : (a b c : Bool) → a && (b && (false && c)) ≡ false
third_false true b c = second_false b c
third_false false b c = refl

one_stops : (text : Text) (k : ℕ) → is_sign_byte (get_or text k 0) ≡ false → k < 1 → all_signs (get_or text 0 0 ∷ []) ≡ false
one_stops text zero e h = rw e refl
one_stops text (suc k) e h = absurd (omega arith)

two_stop : (text : Text) (k : ℕ) → is_sign_byte (get_or text k 0) ≡ false → k < 2 → all_signs (get_or text 0 0 ∷ get_or text 1 0 ∷ []) ≡ false
two_stop text zero e h = rw e refl
two_stop text (suc zero) e h = rw e (second_false (is_sign_byte (get_or text 0 0)) true)
two_stop text (suc (suc k)) e h = absurd (omega arith)

three_stop : (text : Text) (k : ℕ) → is_sign_byte (get_or text k 0) ≡ false → k < 3
    → all_signs (get_or text 0 0 ∷ get_or text 1 0 ∷ get_or text 2 0 ∷ []) ≡ false
three_stop text zero e h = rw e refl
three_stop text (suc zero) e h = rw e (second_false (is_sign_byte (get_or text 0 0)) (is_sign_byte (get_or text 2 0) && true))
three_stop text (suc (suc zero)) e h = rw e (third_false (is_sign_byte (get_or text 0 0)) (is_sign_byte (get_or text 1 0)) true)
three_stop text (suc (suc (suc k))) e h = absurd (omega arith)

take_one : (text : Text) → 1 ≤ length text → take 1 text ≡ get_or text 0 0 ∷ []
take_one [] h = absurd (omega arith)
take_one (a ∷ rest) h = refl

take_two : (text : Text) → 2 ≤ length text → take 2 text ≡ get_or text 0 0 ∷ get_or text 1 0 ∷ []
take_two [] h = absurd (omega arith)
take_two (a ∷ []) h = absurd (omega arith)
take_two (a ∷ (b ∷ rest)) h = refl

take_three : (text : Text) → 3 ≤ length text → take 3 text ≡ get_or text 0 0 ∷ get_or text 1 0 ∷ get_or text 2 0 ∷ []
take_three [] h = absurd (omega arith)
take_three (a ∷ []) h = absurd (omega arith)
take_three (a ∷ (b ∷ [])) h = absurd (omega arith)
take_three (a ∷ (b ∷ (c ∷ rest))) h = refl

front_sign : (text : Text) (n : ℕ) (bytes : Text) → (n ≤ length text → take n text ≡ bytes)
    → (prefix_len is_sign_byte text < n → all_signs bytes ≡ false) → sign_at n text ≡ sign bytes
front_sign text n bytes here past =
    let k = prefix_len is_sign_byte text in
    elim (cases_lt k n) [
      | inl short ↦ let no : nat_le n k ≡ false = grind (arith, nat_tests) in
          cond-false (nat_le n k) (sign (take n text)) None no ∙ sym (sign_bytes bytes (past short))
      | inr long ↦ let yes : nat_le n k ≡ true = grind (arith, nat_tests) in
          cond-true (nat_le n k) (sign (take n text)) None yes ∙ ap sign (here (omega (arith, prefix_len-le-length is_sign_byte text)))
    ]

sign_at_one : (text : Text) → sign_at 1 text ≡ sign (get_or text 0 0 ∷ [])
sign_at_one text = front_sign text 1 _ (take_one text) (one_stops text _ (run_stops text))

sign_at_two : (text : Text) → sign_at 2 text ≡ sign (get_or text 0 0 ∷ get_or text 1 0 ∷ [])
sign_at_two text = front_sign text 2 _ (take_two text) (two_stop text _ (run_stops text))

sign_at_three : (text : Text) → sign_at 3 text ≡ sign (get_or text 0 0 ∷ get_or text 1 0 ∷ get_or text 2 0 ∷ [])
sign_at_three text = front_sign text 3 _ (take_three text) (three_stop text _ (run_stops text))

-- past the end a 0 is read, which is in no operator
pub sign_cut_of_bytes : (text : Text) → sign_cut text
    ≡ sign_or 3 (sign (get_or text 0 0 ∷ get_or text 1 0 ∷ get_or text 2 0 ∷ []))
    (sign_or 2 (sign (get_or text 0 0 ∷ get_or text 1 0 ∷ []))
    (sign_or 1 (sign (get_or text 0 0 ∷ [])) (refused kinds.InvalidCharacter 0 (char_len text))))
unfolding sign_cut
sign_cut_of_bytes text = rw (sign_at_three text, sign_at_two text, sign_at_one text) refl
