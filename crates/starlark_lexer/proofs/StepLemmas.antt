-- What a step gives, case by case.
use Rattle.std.proofs.Common.{◌≡◌, ℕ, ◌+◌, ◌==◌, Bool, true, false, cond, ◌||◌, ◌&&◌, [], ◌∷◌, Some, None, Result, Ok, Err, length, get_or, take, drop, nat_lt}
use Rattle.std.proofs.Common.{refl, sym, ap, ◌∙◌, arith}
use Rattle.std.proofs.lemmas.Bool.{cond-true, cond-false, eq-eqb, ne_eqb}
use Rattle.std.proofs.lemmas.Bool.Decides.{nat_tests}
use Rattle.std.specs.List.{prefix_len}
use Rattle.starlark_lexer.specs.declared.token.LexerErrorKind.{LexerErrorKind}
use Rattle.starlark_lexer.specs.declared.token.LexerErrorKind.TheVariants as kinds
use Rattle.starlark_lexer.specs.Newlines.{first, newline_len}
use Rattle.starlark_lexer.specs.Classes.{is_letter, is_name_byte}
use Rattle.starlark_lexer.specs.Cuts.{token, refused}
use Rattle.starlark_lexer.specs.Lexer.{CodeLexeme, lexeme_of, Gave}
use Rattle.starlark_lexer.specs.Lexing.{char_len, comment_cut, name_of, name_cut, sign_cut, cut}
use Rattle.starlark_lexer.specs.Lines.{whitespace_len, indentation}
use Rattle.starlark_lexer.specs.Lexemes.{State, after, gives, refuses, innermost, floor, opens, closes, bracket_depth, take_cut, literal_or, plain_step}
use Rattle.starlark_lexer.specs.Lexemes.{filled_line_step, indent_step}
use Rattle.starlark_lexer.specs.Numbers.{begins_number, number_cut}
use Rattle.starlark_lexer.specs.Openings.{opening}
use Rattle.starlark_lexer.specs.Tokens.{Text, Terminal, Identifier, Lexeme, LexerFault}
use Rattle.starlark_lexer.specs.Words.{keyword, is_reserved, sign}
use Rattle.starlark_lexer.proofs.SignLemmas.{sign_cut_of_bytes}

pub filled_line-comment : (s : State) (n : ℕ) → n ≡ whitespace_len s.rest → (n ≡ length s.rest → ⊥) → get_or s.rest n 0 ≡ 35
    → filled_line_step s ≡ take_cut (after n s) (comment_cut (drop n s.rest))
unfolding filled_line_step
filled_line-comment s n is some hash = rw (← is) (cond-false (n == length s.rest) _ _ (ne_eqb _ _ some)
    ∙ cond-true (get_or s.rest n 0 == 35) _ _ (eq-eqb _ 35 hash))

pub filled_line-indent : (s : State) (n : ℕ) → n ≡ whitespace_len s.rest → (n ≡ length s.rest → ⊥) → (get_or s.rest n 0 ≡ 35 → ⊥)
    → filled_line_step s ≡ indent_step s n (indentation (take n s.rest))
unfolding filled_line_step
filled_line-indent s n is some other = rw (← is) (cond-false (n == length s.rest) _ _ (ne_eqb _ _ some)
    ∙ cond-false (get_or s.rest n 0 == 35) _ _ (ne_eqb _ _ other))

-- ---- names

letter_depth : (low b depth : ℕ) → is_letter b ≡ true → bracket_depth low b depth ≡ depth
letter_depth low b depth e = grind (arith, nat_tests)

letter_newline : (text : Text) → is_letter (first text) ≡ true → newline_len text ≡ 0
letter_newline text e = grind (arith, nat_tests)

or_false : (x : Bool) → (x || false) ≡ x
or_false true = refl
or_false false = refl

letter_taken : (s : State) (n : ℕ) (t : Terminal) → is_letter (first s.rest) ≡ true
    → take_cut s (record { what = Ok t; begin = 0; len = n; taken = n }) ≡ gives t n s (after n s)
letter_taken s n t letter =
    rw (letter_depth (floor (innermost s.f_strings)) (first s.rest) s.depth letter, letter_newline s.rest letter, or_false s.line_begins) refl

name_of-keyword : (text : Text) (t : Terminal) → Some t ≡ keyword text → Ok t ≡ name_of text
unfolding name_of
name_of-keyword text t e = rw (← e) refl

name_of-plain : (text : Text) → None ≡ keyword text → false ≡ is_reserved text → Ok (Identifier text) ≡ name_of text
unfolding name_of
name_of-plain text e plain = rw (← e, ← plain) refl

name_of-reserved : (text : Text) → None ≡ keyword text → true ≡ is_reserved text → Err kinds.ReservedKeyword ≡ name_of text
unfolding name_of
name_of-reserved text e reserved = rw (← e, ← reserved) refl

name_is : (text : Text) (n : ℕ) (what : Result Terminal LexerErrorKind) → n ≡ prefix_len is_name_byte text → what ≡ name_of (take n text)
    → name_cut text ≡ record { what = what; begin = 0; len = n; taken = n }
unfolding name_cut
name_is text n what is e = rw (e, is) refl

name_taken : (s : State) (n : ℕ) (t : Terminal) → is_letter (first s.rest) ≡ true → n ≡ prefix_len is_name_byte s.rest → Ok t ≡ name_of (take n s.rest)
    → take_cut s (name_cut s.rest) ≡ gives t n s (after n s)
name_taken s n t letter is e = ap (take_cut s) (name_is s.rest n (Ok t) is e) ∙ letter_taken s n t letter

pub name-keyword : (s : State) (n : ℕ) (t : Terminal) → is_letter (first s.rest) ≡ true → n ≡ prefix_len is_name_byte s.rest → Some t ≡ keyword (take n s.rest)
    → take_cut s (name_cut s.rest) ≡ gives t n s (after n s)
name-keyword s n t letter is e = name_taken s n t letter is (name_of-keyword (take n s.rest) t e)

pub name-identifier : (s : State) (n : ℕ) → is_letter (first s.rest) ≡ true → n ≡ prefix_len is_name_byte s.rest
    → None ≡ keyword (take n s.rest) → false ≡ is_reserved (take n s.rest)
    → take_cut s (name_cut s.rest) ≡ gives (Identifier (take n s.rest)) n s (after n s)
name-identifier s n letter is e plain = name_taken s n _ letter is (name_of-plain (take n s.rest) e plain)

pub name-reserved : (s : State) (n : ℕ) → n ≡ prefix_len is_name_byte s.rest → None ≡ keyword (take n s.rest) → true ≡ is_reserved (take n s.rest)
    → take_cut s (name_cut s.rest) ≡ refuses kinds.ReservedKeyword s.at (s.at + n) s
name-reserved s n is e reserved =
    let same : s.at + 0 ≡ s.at = omega arith in
    ap (take_cut s) (name_is s.rest n _ is (name_of-reserved (take n s.rest) e reserved)) ∙ ap (λ a. refuses kinds.ReservedKeyword a (a + n) s) same

-- ---- operators and punctuation

pub sign-three : (text : Text) (t : Terminal) → Some t ≡ sign (get_or text 0 0 ∷ get_or text 1 0 ∷ get_or text 2 0 ∷ []) → sign_cut text ≡ token t 3
sign-three text t e = rw (sign_cut_of_bytes text, ← e) refl

pub sign-two : (text : Text) (t : Terminal) → None ≡ sign (get_or text 0 0 ∷ get_or text 1 0 ∷ get_or text 2 0 ∷ [])
    → Some t ≡ sign (get_or text 0 0 ∷ get_or text 1 0 ∷ []) → sign_cut text ≡ token t 2
sign-two text t three e = rw (sign_cut_of_bytes text, ← three, ← e) refl

pub sign-one : (text : Text) (t : Terminal) → None ≡ sign (get_or text 0 0 ∷ get_or text 1 0 ∷ get_or text 2 0 ∷ [])
    → None ≡ sign (get_or text 0 0 ∷ get_or text 1 0 ∷ []) → Some t ≡ sign (get_or text 0 0 ∷ []) → sign_cut text ≡ token t 1
sign-one text t three two e = rw (sign_cut_of_bytes text, ← three, ← two, ← e) refl

sign-none : (text : Text) → None ≡ sign (get_or text 0 0 ∷ get_or text 1 0 ∷ get_or text 2 0 ∷ [])
    → None ≡ sign (get_or text 0 0 ∷ get_or text 1 0 ∷ []) → None ≡ sign (get_or text 0 0 ∷ []) → sign_cut text ≡ refused kinds.InvalidCharacter 0
    (char_len text)
sign-none text three two one = rw (sign_cut_of_bytes text, ← three, ← two, ← one) refl

pub sign-refused : (s : State) (n : ℕ) → n ≡ char_len s.rest → None ≡ sign (get_or s.rest 0 0 ∷ get_or s.rest 1 0 ∷ get_or s.rest 2 0 ∷ [])
    → None ≡ sign (get_or s.rest 0 0 ∷ get_or s.rest 1 0 ∷ []) → None ≡ sign (get_or s.rest 0 0 ∷ [])
    → take_cut s (sign_cut s.rest) ≡ refuses kinds.InvalidCharacter s.at (s.at + n) s
sign-refused s n is three two one =
    let same : s.at + 0 ≡ s.at = omega arith in
    ap (take_cut s) (sign-none s.rest three two one) ∙ ap (λ a. refuses kinds.InvalidCharacter a (a + char_len s.rest) s) same
    ∙ ap (λ k. refuses kinds.InvalidCharacter s.at (s.at + k) s) (sym is)

flat : (o c less : Bool) (x y z : ℕ) → (o || c) ≡ false → cond o x (cond (c && less) y z) ≡ z
flat true c less x y z e = cc
flat false true less x y z e = cc
flat false false less x y z e = refl

-- an operator or punctuation that is not a delimiter
pub sign_taken : (s : State) (n : ℕ) (t : Terminal) → newline_len s.rest ≡ 0 → (opens (first s.rest) || closes (first s.rest)) ≡ false
    → take_cut s (token t n) ≡ gives t n s (after n s)
sign_taken s n t unbroken plain =
    let same : bracket_depth (floor (innermost s.f_strings)) (first s.rest) s.depth ≡ s.depth =
    flat (opens (first s.rest)) (closes (first s.rest)) _ _ _ _ plain in
    rw (same, unbroken, or_false s.line_begins) refl

-- an operator, punctuation or delimiter of one byte
pub lone_taken : (s : State) (t : Terminal) → newline_len s.rest ≡ 0 → take_cut s (token t 1)
    ≡ gives t 1 s (record (after 1 s) { depth = bracket_depth (floor (innermost s.f_strings)) (first s.rest) s.depth })
lone_taken s t unbroken = rw (unbroken, or_false s.line_begins) refl

-- ---- what does not begin with a string, a newline, a comment or a name

cut-number : (text : Text) → newline_len text ≡ 0 → (first text ≡ 35 → ⊥) → is_letter (first text) ≡ false → begins_number text ≡ true
    → cut text ≡ number_cut text
unfolding cut
cut-number text unbroken other letter begins =
    cond-false (nat_lt 0 (newline_len text)) _ _ (rw unbroken refl) ∙ cond-false (first text == 35) _ _ (ne_eqb _ _ other)
    ∙ cond-false (is_letter (first text)) _ _ letter ∙ cond-true (begins_number text) _ _ begins

cut-sign : (text : Text) → newline_len text ≡ 0 → (first text ≡ 35 → ⊥) → is_letter (first text) ≡ false → begins_number text ≡ false → cut text ≡ sign_cut text
unfolding cut
cut-sign text unbroken other letter begins =
    cond-false (nat_lt 0 (newline_len text)) _ _ (rw unbroken refl) ∙ cond-false (first text == 35) _ _ (ne_eqb _ _ other)
    ∙ cond-false (is_letter (first text)) _ _ letter ∙ cond-false (begins_number text) _ _ begins

plain-cut : (s : State) → None ≡ opening s.rest → plain_step s ≡ take_cut s (cut s.rest)
unfolding plain_step
plain-cut s none = ap (literal_or s) (sym none)

pub plain-number : (s : State) → None ≡ opening s.rest → newline_len s.rest ≡ 0 → (first s.rest ≡ 35 → ⊥) → is_letter (first s.rest) ≡ false
    → begins_number s.rest ≡ true → plain_step s ≡ take_cut s (number_cut s.rest)
plain-number s none unbroken other letter begins = plain-cut s none ∙ ap (take_cut s) (cut-number s.rest unbroken other letter begins)

pub plain-sign : (s : State) → None ≡ opening s.rest → newline_len s.rest ≡ 0 → (first s.rest ≡ 35 → ⊥) → is_letter (first s.rest) ≡ false
    → begins_number s.rest ≡ false → plain_step s ≡ take_cut s (sign_cut s.rest)
plain-sign s none unbroken other letter begins = plain-cut s none ∙ ap (take_cut s) (cut-sign s.rest unbroken other letter begins)

-- ---- what a call returned

-- a token, and the state after it
pub gave-taken : (l : Lexeme) (u : State) (x : CodeLexeme) (t : State) → lexeme_of x ≡ Ok l → t ≡ u → Gave (Ok l, u) x t
gave-taken l u (Ok y) t e h = ap (λ z. (z, u)) (sym e) ∙ ap (λ z. (lexeme_of (Ok y), z)) (sym h)
gave-taken l u (Err f) t e h = absurd (cc)

no_error : (a : LexerFault) (b : Lexeme) → Err a ≡ Ok b → ⊥
no_error a b e = cc

pub gave-given : (s : State) (what : Terminal) (len taken : ℕ) (x : CodeLexeme) (t : State)
    → (lexeme_of x, t) ≡ take_cut s (record { what = Ok what; begin = 0; len = len; taken = taken })
    → Gave (take_cut s (record { what = Ok what; begin = 0; len = len; taken = taken })) x t
gave-given s what len taken (Ok y) t e = sym e
gave-given s what len taken (Err f) t e = absurd (no_error _ _ (ap (λ p. p.0) e))
