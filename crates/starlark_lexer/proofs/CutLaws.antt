-- Where comments, names, operators and newlines lie in their text.
use Rattle.std.proofs.Common.{◌≡◌, ℕ, ◌+◌, ◌-◌, ◌<◌, ◌≤◌, true, false, cond, ◌&&◌, ◌==◌, nat_le, List, [], ◌∷◌, length, get_or, take, IsUtf8, Option, Some}
use Rattle.std.proofs.Common.{None, option_map, unwrap_or, Result, Ok, Err, inl, inr, refl, ◌∙◌, arith, zero-add, eqb-true}
use Rattle.std.proofs.lemmas.Bool.{leb-true}
use Rattle.std.proofs.Math.Numerals.{one-add}
use Rattle.std.proofs.lemmas.Bool.{cases_Bool, and_parts, cond_both, cond-true, cond-false}
use Rattle.std.proofs.lemmas.Bool.Decides.{nat_tests}
use Rattle.std.proofs.lemmas.List.Sums.{prefix_len-le-length, prefix_len_stops}
use Rattle.std.proofs.lemmas.Option.{none-some}
use Rattle.std.proofs.lemmas.Str.{IsCharBoundary-start, IsCharBoundary-after_ascii}
use Rattle.std.specs.List.{prefix_len}
use Rattle.std.specs.Str.{IsCharBoundary}
use Rattle.starlark_lexer.specs.declared.token.LexerErrorKind.{LexerErrorKind}
use Rattle.starlark_lexer.specs.declared.token.LexerErrorKind.TheVariants as kinds
use Rattle.starlark_lexer.specs.Newlines.{first, newline_len}
use Rattle.starlark_lexer.specs.Classes.{is_between, is_letter, is_name_byte, is_sign_byte}
use Rattle.starlark_lexer.specs.Cuts.{Cut, token, refused, is_gap, IsSpelled, IsFront, IsCutOf}
use Rattle.starlark_lexer.specs.Tokens.{Terminal, Identifier, Newline}
use Rattle.starlark_lexer.specs.Words.{keyword, keywords, is_reserved, sign, signs}
use Rattle.starlark_lexer.specs.Lexing.{before_newline, comment_cut, plain_name, name_of, name_cut, sign_at, sign_or, sign_cut, char_len}
use Rattle.starlark_lexer.proofs.ByteRuns.{within_from_byte, run_boundary, prefix_some}
use Rattle.starlark_lexer.proofs.CommentLemmas.{before_newline-IsNewlinePlace, comment_end-IsNewlinePlace}
use Rattle.starlark_lexer.proofs.WordLemmas.{spelled_so-spelled}

is_front : (what : Result Terminal LexerErrorKind) → IsFront 0 what
is_front (Ok what) = refl
is_front (Err kind) = tt

-- a lexeme at the front with which only its own bytes are consumed
pub front_cut : (text : List ℕ) (what : _) (n : ℕ) → IsUtf8 text → 0 < n → n ≤ length text → IsCharBoundary text n → IsSpelled (take n text) what
    → IsCutOf text (record { what = what; begin = 0; len = n; taken = n })
front_cut text what n utf8 some within boundary spelled = record {
  some = some;
  front = is_front what;
  begin = IsCharBoundary-start text utf8;
  end = rw zero-add boundary;
  taken = boundary;
  within = omega arith;
  gap = λ k h l. absurd (omega arith);
  spelled = spelled;
}

pub newline_fits : (text : List ℕ) → IsUtf8 text → 0 < newline_len text → IsCutOf text (token Newline (newline_len text))
newline_fits text utf8 some =
    let b0 = get_or text 0 0 in
    let b1 = get_or text 1 0 in
    elim (cases_Bool (b0 == 10)) [
      | inl one ↦ let is_one : newline_len text ≡ 1 = cond-true _ _ _ one in
          let within = within_from_byte text 0 (omega (arith, eqb-true b0 10 one)) in
          rw is_one (front_cut text (Ok Newline) 1 utf8 (omega arith) (omega arith)
          (IsCharBoundary-after_ascii text 0 utf8 within (omega (arith, eqb-true b0 10 one))) tt)
      | inr not_one ↦ elim (cases_Bool (b0 == 13 && b1 == 10)) [
        | inl two ↦ let is_two : newline_len text ≡ 2 = cond-false _ _ _ not_one ∙ cond-true _ _ _ two in
            let feed : b1 ≡ 10 = eqb-true b1 10 (and_parts _ _ two).1 in
            let within : 1 < length text = within_from_byte text 1 (omega arith) in
            rw is_two (front_cut text (Ok Newline) 2 utf8 (omega arith) (omega arith) (IsCharBoundary-after_ascii text 1 utf8 within (omega arith)) tt)
        | inr not_two ↦ let none : newline_len text ≡ 0 = cond-false _ _ _ not_one ∙ cond-false _ _ _ not_two in absurd (omega arith)
      ]
    ]

-- ---- names

plain_spelled : (text : List ℕ) → IsSpelled text (plain_name text)
plain_spelled text = cond_both (is_reserved text) (Err kinds.ReservedKeyword) (Ok (Identifier text)) (IsSpelled text) (λ _. tt) (λ _. refl)

word_spelled : (text : List ℕ) (o : Option Terminal) → o ≡ keyword text → IsSpelled text (unwrap_or (option_map (λ t. Ok t) o) (plain_name text))
unfolding keyword
word_spelled text None e = plain_spelled text
word_spelled text (Some t) e = spelled_so-spelled text keywords t (rw e refl)

name_spelled : (text : List ℕ) → IsSpelled text (name_of text)
unfolding name_of
name_spelled text = word_spelled text (keyword text) refl

pub letter_name : (b : ℕ) → is_letter b ≡ true → is_name_byte b ≡ true
letter_name b e = rw e

name_ascii : (b : ℕ) → is_name_byte b ≡ true → b < 128
name_ascii b e = grind (arith, nat_tests)

-- a name ends where a character does
pub name_ends : (text : List ℕ) → IsUtf8 text → IsCharBoundary text (prefix_len is_name_byte text)
name_ends text utf8 = run_boundary is_name_byte text _ utf8 name_ascii (omega arith)

pub name_fits : (text : List ℕ) → IsUtf8 text → 0 < length text → is_letter (first text) ≡ true → IsCutOf text (name_cut text)
unfolding name_cut
name_fits text utf8 some letter =
    let n = prefix_len is_name_byte text in
    front_cut text (name_of (take n text)) n utf8 (prefix_some is_name_byte text some (letter_name (first text) letter))
    (prefix_len-le-length is_name_byte text)
    (run_boundary is_name_byte text n utf8 name_ascii (omega arith)) (name_spelled (take n text))

-- ---- operators and punctuation

not_rest : (b : ℕ) → is_between 128 191 b ≡ false → 128 ≤ b → 192 ≤ b
not_rest b e h = grind (arith, nat_tests)

char_boundary : (text : List ℕ) → 0 < length text → IsCharBoundary text (char_len text)
char_boundary [] some = absurd (omega arith)
char_boundary (b ∷ bs) some =
    let n = prefix_len (is_between 128 191) bs in
    let within = prefix_len-le-length (is_between 128 191) bs in
    let same : get_or (b ∷ bs) (1 + n) 0 ≡ get_or bs n 0 = rw one-add refl in
    (omega arith, λ h. rw same (λ high. not_rest (get_or bs n 0) (prefix_len_stops (is_between 128 191) bs 0 (omega arith)) high))

pub char_len-le : (text : List ℕ) → 0 < length text → char_len text ≤ length text
char_len-le text some = (char_boundary text some).0

char_fits : (text : List ℕ) → IsUtf8 text → 0 < length text → IsCutOf text (refused kinds.InvalidCharacter 0 (char_len text))
char_fits text utf8 some =
    let boundary = char_boundary text some in
    let same : 0 + char_len text ≡ char_len text = zero-add _ in
    rw same (front_cut text (Err kinds.InvalidCharacter) (char_len text) utf8 (omega arith) boundary.0 boundary tt)

sign_ascii : (b : ℕ) → is_sign_byte b ≡ true → b < 128
sign_ascii b e = grind (arith, nat_tests)

sign_front : (text : List ℕ) (n : ℕ) (t : Terminal) → IsUtf8 text → 0 < n → n ≤ prefix_len is_sign_byte text → Some t ≡ sign (take n text)
    → IsCutOf text (token t n)
unfolding sign
sign_front text n t utf8 some run e =
    front_cut text (Ok t) n utf8 some (omega (arith, prefix_len-le-length is_sign_byte text)) (run_boundary is_sign_byte text n utf8 sign_ascii run)
    (spelled_so-spelled (take n text) signs t (rw e refl))

sign_within : (text : List ℕ) (n : ℕ) (t : Terminal) → Some t ≡ sign_at n text → (n ≤ prefix_len is_sign_byte text) × (Some t ≡ sign (take n text))
sign_within text n t e =
    let test = nat_le n (prefix_len is_sign_byte text) in
    elim (cases_Bool test) [
      | inl on ↦ (leb-true n _ on, e ∙ cond-true test (sign (take n text)) None on)
      | inr off ↦ absurd (none-some t (rw (e ∙ cond-false test (sign (take n text)) None off) refl))
    ]

sign_or_fits : (text : List ℕ) (n : ℕ) (o : Option Terminal) (other : Cut) → o ≡ sign_at n text → IsUtf8 text → 0 < n → IsCutOf text other
    → IsCutOf text (sign_or n o other)
sign_or_fits text n None other e utf8 some fits = fits
sign_or_fits text n (Some t) other e utf8 some fits = let (run, is) = sign_within text n t e in sign_front text n t utf8 some run is

pub sign_fits : (text : List ℕ) → IsUtf8 text → 0 < length text → IsCutOf text (sign_cut text)
unfolding sign_cut
sign_fits text utf8 some =
    sign_or_fits text 3 (sign_at 3 text) _ refl utf8 (omega arith)
    (sign_or_fits text 2 (sign_at 2 text) _ refl utf8 (omega arith) (sign_or_fits text 1 (sign_at 1 text) _ refl utf8 (omega arith) (char_fits text utf8 some)))

-- ---- comments

return_gap : (b : ℕ) → b ≡ 13 → is_gap b ≡ true
return_gap b e = rw e

pub comment_fits : (text : List ℕ) → IsUtf8 text → first text ≡ 35 → IsCutOf text (comment_cut text)
unfolding comment_cut
comment_fits text utf8 e =
    let line = before_newline text in
    let place = before_newline-IsNewlinePlace text e in
    let test = get_or text (line - 1) 0 == 13 in
    let len = cond test (line - 1) line in
    let end = comment_end-IsNewlinePlace text line e place in
    let P : ℕ → Type 0 = λ n. n ≤ line in
    let Q : ℕ → Type 0 = λ n. (k : ℕ) → n ≤ k → k < line → is_gap (get_or text k 0) ≡ true in
    record {
      some = end.some;
      front = refl;
      begin = IsCharBoundary-start text utf8;
      end = rw zero-add end.boundary;
      taken = place.boundary;
      within = rw zero-add (cond_both test (line - 1) line P (λ _. omega arith) (λ _. omega arith));
      gap = rw zero-add (cond_both test (line - 1) line Q
          (λ t k h l. let same : k ≡ line - 1 = omega arith in rw same (return_gap (get_or text (line - 1) 0) (eqb-true (get_or text (line - 1) 0) 13 t)))
          (λ _ k h l. absurd (omega arith)));
      spelled = tt;
    }
