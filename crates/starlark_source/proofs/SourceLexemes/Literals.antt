-- Literals, as they are written.
use Rattle.std.proofs.Common.{◌≡◌, ℕ, ◌+◌, ◌*◌, ◌/◌, ◌%◌, ◌<◌, nat_le, Bool, true, false, not, ◌&&◌, ◌||◌, ◌==◌, [], ◌∷◌, codes, refl, sym, subst, arith, inl}
use Rattle.std.proofs.Common.{inr, eqb-true, ltb-true, pos, negsuc}
use Rattle.std.specs.List.{list_all}
use Rattle.std.specs.Char.{digit_value}
use Rattle.std.specs.Str.Parse.{digits_value}
use Rattle.std.proofs.lemmas.Bool.{and_parts, cond_both, lt-ltb, cases_lt}
use Rattle.std.proofs.lemmas.Bool.Decides.{nat_tests}
use Rattle.std.proofs.lemmas.Str.{encode_ascii}
use Rattle.starlark_lexer.specs.Classes.{is_digit_of}
use Rattle.starlark_lexer.specs.Pieces.{is_plain}
use Rattle.starlark_lexer.specs.Tokens.{Text, Span, String, Bytes, Ellipsis, small, large}
use Rattle.starlark_tree.specs.Ast as t
use Rattle.starlark_tree.specs.Literals.{hex_digit, escaped_byte}
use Rattle.starlark_source.specs.Pieces.{token, escaped, escaped_in_format}
use Rattle.starlark_source.specs.Literals.{is_byte, sayable, literal}
use Rattle.starlark_lexer.proofs.TokenTexts.LexerStates.{Standing}
use Rattle.starlark_lexer.proofs.TokenTexts.LineTokens.{InLine}
use Rattle.starlark_lexer.proofs.TokenTexts.StringBytes.{marks, Letter, feed, tab, return, quotation, backslash, Spells as ByteSpells, itself, by_letter}
use Rattle.starlark_lexer.proofs.TokenTexts.StringBytes.{by_digits, doubled, opening, closing, AreSpelled}
use Rattle.starlark_lexer.proofs.TokenTexts.Literals.{spelled_string, spelled_bytes}
use Rattle.starlark_lexer.proofs.TokenTexts.Operators.{ellipsis_given}
use Rattle.starlark_source.proofs.ReadBack.Writing.{Sayable}
use Rattle.starlark_source.proofs.SourceLexemes.Pieces.{Spells}
use Rattle.starlark_source.proofs.SourceLexemes.NextBytes.{StopsOr, no_mark}
use Rattle.starlark_source.proofs.SourceLexemes.Tokens.{given_token, float_spelled, large_spelled, small_spelled}

-- ---- bytes of strings

letter_for : (bytes format : Bool) (letter c b : ℕ) → Letter letter c → (b == c) ≡ true → ByteSpells bytes format b (92 ∷ letter ∷ [])
letter_for bytes format letter c b is e = subst (λ x. ByteSpells bytes format x (92 ∷ letter ∷ [])) (sym (eqb-true b c e)) (by_letter is)

zero_spelled : (format : Bool) → ByteSpells false format 0 (codes "\\x00")
zero_spelled format = by_digits refl refl refl (omega arith) (encode_ascii 0 (omega arith))

-- a byte that denotes itself
stands : (format : Bool) (b : ℕ) → (b == 34) ≡ false → (b == 92) ≡ false → (b == 10) ≡ false → (b == 13) ≡ false → (not format || not (b == 123 || b == 125))
    ≡ true
    → is_plain (marks false format) b ≡ true
stands format b mark slash feeds returns brace = grind (arith, nat_tests)

byte_escaped : (format : Bool) (b : ℕ) → (not format || not (b == 123 || b == 125)) ≡ true → ByteSpells false format b (escaped b)
byte_escaped format b brace =
    let P : Text → Type 0 = ByteSpells false format b in
    cond_both (b == 10) (codes "\\n") _ P (letter_for false format 110 10 b feed)
    (λ feeds. cond_both (b == 9) (codes "\\t") _ P (letter_for false format 116 9 b tab)
    (λ tabs. cond_both (b == 13) (codes "\\r") _ P (letter_for false format 114 13 b return)
    (λ returns. cond_both (b == 0) (codes "\\x00") _ P
    (λ e. subst (λ x. ByteSpells false format x (codes "\\x00")) (sym (eqb-true b 0 e)) (zero_spelled format))
    (λ zeros. cond_both (b == 34) (codes "\\\"") _ P (letter_for false format 34 34 b quotation)
    (λ mark. cond_both (b == 92)
    (codes "\\\\") _ P (letter_for false format 92 92 b backslash) (λ slash. itself (stands format b mark slash feeds returns brace)))))))

all_escaped : (text : Text) → AreSpelled false false escaped text
all_escaped [] = tt
all_escaped (b ∷ bs) = (byte_escaped false b refl, all_escaped bs)

brace_other : (b : ℕ) → (b == 123) ≡ false → (b == 125) ≡ false → (not true || not (b == 123 || b == 125)) ≡ true
brace_other b opens closes = rw (opens, closes) refl

-- a byte of an f-string's text
pub format_escaped : (b : ℕ) → ByteSpells false true b (escaped_in_format b)
format_escaped b =
    cond_both (b == 123) (codes "{{") _ (ByteSpells false true b)
    (λ e. subst (λ x. ByteSpells false true x (codes "{{")) (sym (eqb-true b 123 e)) (doubled refl opening))
    (λ opens. cond_both (b == 125) (codes "}}") _ (ByteSpells false true b)
    (λ e. subst (λ x. ByteSpells false true x (codes "}}")) (sym (eqb-true b 125 e)) (doubled refl closing))
    (λ closes. byte_escaped true b (brace_other b opens closes)))

-- ---- bytes of bytes literals

hex_value : (n : ℕ) → n < 16 → digit_value (hex_digit n) ≡ n
hex_value n less = elim (cases_lt n 10) [ inl low ↦ grind (arith, nat_tests) | inr high ↦ grind (arith, nat_tests) ]

hex_is_digit : (n : ℕ) → n < 16 → is_digit_of 16 (hex_digit n) ≡ true
hex_is_digit n less = lt-ltb (digit_value (hex_digit n)) 16 (let value = hex_value n less in omega arith)

two_of : (x y b : ℕ) → x ≡ b / 16 → y ≡ b % 16 → (0 + x) * 16 + y ≡ b
two_of x y b high low = omega arith

two_digits : (b : ℕ) → b < 256 → digits_value 16 (hex_digit (b / 16) ∷ hex_digit (b % 16) ∷ []) ≡ b
two_digits b less = two_of (digit_value (hex_digit (b / 16))) (digit_value (hex_digit (b % 16))) b (hex_value (b / 16) (omega arith))
    (hex_value (b % 16) (omega arith))

-- a byte of printable ASCII
printable : (b : ℕ) → (b == 34) ≡ false → (b == 92) ≡ false → (nat_le 32 b && nat_le b 126) ≡ true → is_plain (marks true false) b ≡ true
printable b mark slash e = grind (arith, nat_tests)

bytes_escaped : (b : ℕ) → b < 256 → ByteSpells true false b (escaped_byte b)
bytes_escaped b less =
    let P : Text → Type 0 = ByteSpells true false b in
    cond_both (b == 34) (codes "\\\"") _ P (letter_for true false 34 34 b quotation)
    (λ mark. cond_both (b == 92) (codes "\\\\") _ P (letter_for true false 92 92 b backslash)
    (λ slash. cond_both (b == 10) (codes "\\n") _ P (letter_for true false 110 10 b feed)
    (λ feeds. cond_both (b == 13) (codes "\\r") _ P (letter_for true false 114 13 b return)
    (λ returns. cond_both (b == 9) (codes "\\t") _ P (letter_for true false 116 9 b tab)
    (λ tabs. cond_both (nat_le 32 b && nat_le b 126) (b ∷ []) _ P (λ e. itself (printable b mark slash e))
    (λ other. by_digits (hex_is_digit (b / 16) (omega arith)) (hex_is_digit (b % 16) (omega arith)) (two_digits b less) less refl))))))

all_bytes : (bytes : Text) → list_all is_byte bytes ≡ true → AreSpelled true false escaped_byte bytes
all_bytes [] e = tt
all_bytes (b ∷ bs) e = let parts = and_parts (is_byte b) (list_all is_byte bs) e in (bytes_escaped b (ltb-true b 256 parts.0), all_bytes bs parts.1)

-- ---- literals

pub string_spelled : {c : Standing} (p : Bool) (text : Text) → InLine c → Spells c (token (String text) ∷ []) c (StopsOr p)
string_spelled p text line = given_token (String text) line (λ rest f. spelled_string escaped text rest (all_escaped text) (no_mark p rest f))

bytes_if : {c : Standing} (p : Bool) (bytes : Text) (s : Span) → InLine c → (b : Bool) → list_all is_byte bytes ≡ b → Sayable (sayable b (Bytes bytes) s)
    → Spells c (sayable b (Bytes bytes) s) c (StopsOr p)
bytes_if p bytes s line true e h = given_token (Bytes bytes) line (λ rest f. spelled_bytes escaped_byte bytes rest (all_bytes bytes e) (no_mark p rest f))
bytes_if p bytes s line false e h = absurd h

-- a dot may follow a literal that is not a number
abbrev pub is_number : t.Literal → Bool
is_number (t.Int s n) = true
is_number (t.Float w) = true
is_number _ = false

pub literal_spelled : {c : Standing} (x : t.Literal) → InLine c → Sayable (literal x) → Spells c (literal x) c (StopsOr (not (is_number x)))
literal_spelled (t.Int s (small (pos n))) line h = small_spelled n s line h
literal_spelled (t.Int s (small (negsuc n))) line h = absurd h
literal_spelled (t.Int s (large text)) line h = large_spelled text s line h
literal_spelled (t.Float w) line h = float_spelled w.text w.span line h
literal_spelled (t.String w) line h = string_spelled true w.text line
literal_spelled (t.Bytes w) line h = bytes_if true w.text w.span line (list_all is_byte w.text) refl h
literal_spelled t.Ellipsis line h = given_token Ellipsis line (λ rest f. ellipsis_given rest)
