-- Where the pieces of a literal end, and where what stops them does.
use Rattle.std.proofs.Common.{◌≡◌, ℕ, ◌+◌, ◌<◌, ◌≤◌, Bool, true, false, not, ◌&&◌, ◌||◌, ◌==◌, nat_lt, inl, inr, List, length, get_or, take, drop, IsUtf8}
use Rattle.std.proofs.Common.{Option, Some, None, Result, Ok, Err, refl, subst, arith, ltb-true, eqb-true}
use Rattle.std.proofs.lemmas.Bool.{cases_lt, and_parts, cond_both}
use Rattle.std.proofs.lemmas.Bool.Decides.{nat_tests}
use Rattle.std.proofs.lemmas.List.Sums.{prefix_len-le-length, prefix_len_stops}
use Rattle.std.proofs.lemmas.Str.{IsCharBoundary-start, IsCharBoundary-end, IsCharBoundary-after_ascii, IsCharBoundary-before_ascii, IsCharBoundary-from_rest}
use Rattle.std.proofs.lemmas.Str.{IsUtf8-drop}
use Rattle.std.specs.List.{prefix_len}
use Rattle.std.specs.Str.{IsCharBoundary}
use Rattle.std.specs.Str.Parse.{digits_value}
use Rattle.starlark_lexer.specs.declared.string.escape.Adds.{Adds}
use Rattle.starlark_lexer.specs.declared.string.escape.Adds.TheVariants.{Front, Char, Byte}
use Rattle.starlark_lexer.specs.declared.string.escape.Piece.{Piece}
use Rattle.starlark_lexer.specs.declared.string.escape.Stop.{Stop}
use Rattle.starlark_lexer.specs.declared.string.escape.Stop.TheVariants.{Closed, Unfinished, Hole, LoneBrace, BadEscape}
use Rattle.starlark_lexer.specs.declared.string.opening.Style.{Style}
use Rattle.starlark_lexer.specs.declared.text.Class.TheVariants.{Base}
use Rattle.starlark_lexer.specs.Classes.{is_between, is_digit_of}
use Rattle.starlark_lexer.specs.Newlines.{newline_len}
use Rattle.starlark_lexer.specs.Escapes.{simple_escape, is_scalar, digits_len, numbered, octal_escape, hex_escape, unicode_escape, letter_piece, letter_escape}
use Rattle.starlark_lexer.specs.Escapes.{escape}
use Rattle.starlark_lexer.specs.Openings.{is_quote, quotes_len}
use Rattle.starlark_lexer.specs.Pieces.{is_plain, as_it_stands, at_quote, raw_backslash, at_brace, at_newline, special, piece}
use Rattle.starlark_lexer.specs.Strings.{stop_len}
use Rattle.starlark_lexer.proofs.ByteRuns.{IsCharBoundary-run, within_from_byte}

-- what a piece adds unchanged ends on a character boundary
abbrev pub IsFrontOf : List ℕ → Adds → Type 0
IsFrontOf text (Front n) = IsCharBoundary text n
IsFrontOf text (Char c) = Unit {0}
IsFrontOf text (Byte b) = Unit {0}

-- an escape that denotes nothing has bytes
abbrev pub HasBytes : Stop → Type 0
HasBytes (BadEscape n) = 0 < n
HasBytes Closed = Unit {0}
HasBytes Unfinished = Unit {0}
HasBytes Hole = Unit {0}
HasBytes LoneBrace = Unit {0}

abbrev pub EndsAtChars : Style → List ℕ → Result Piece Stop → Type 0
EndsAtChars style text (Ok p) = (0 < p.len) × IsCharBoundary text p.len × IsFrontOf text p.adds
EndsAtChars style text (Err stop) = IsCharBoundary text (stop_len style stop) × HasBytes stop

-- a piece at the front, or what stops there, ends on a character boundary
pub record PieceFits (style : Style) (text : List ℕ) (r : Result Piece Stop) : Type 0 where
  pub fits : EndsAtChars style text r

-- ---- ASCII bytes

-- after an ASCII byte other than 0
pub after_ascii : (text : List ℕ) (i : ℕ) → IsUtf8 text → 0 < get_or text i 0 → get_or text i 0 < 128 → IsCharBoundary text (i + 1)
after_ascii text i utf8 some ascii = IsCharBoundary-after_ascii text i utf8 (within_from_byte text i some) ascii

-- an ASCII byte, and then what ends on a character boundary of the rest
after_first : (text : List ℕ) (n : ℕ) → IsUtf8 text → 0 < get_or text 0 0 → get_or text 0 0 < 128 → (IsUtf8 (drop 1 text) → IsCharBoundary (drop 1 text) n)
    → IsCharBoundary text (1 + n)
after_first text n utf8 some ascii more =
    let here : IsCharBoundary text 1 = after_ascii text 0 utf8 some ascii in
    IsCharBoundary-from_rest text 1 n here.0 (more (IsUtf8-drop text 1 utf8 here))

stands : (style : Style) (text : List ℕ) (n : ℕ) → 0 < n → IsCharBoundary text n → PieceFits style text (Ok (as_it_stands n))
stands style text n some end = record { fits = (some, end, end) }

pub quote_ascii : (b : ℕ) → is_quote b ≡ true → (0 < b) × (b < 128)
quote_ascii b e = (grind (arith, nat_tests), grind (arith, nat_tests))

-- ---- escapes

digits_boundary : (base most : ℕ) (text : List ℕ) → base ≤ 36 → IsUtf8 text → IsCharBoundary text (digits_len base most text)
digits_boundary base most text high utf8 =
    let run = prefix_len (is_digit_of base) text in
    let P : ℕ → Type 0 = λ n. n ≤ run in
    let within : digits_len base most text ≤ run = cond_both (nat_lt run most) run most P (λ _. omega arith) (λ f. grind (arith, nat_tests)) in
    IsCharBoundary-run (Base base) text _ utf8 high within

numbered_fits : (style : Style) (text : List ℕ) (bytes : Bool) (number len : ℕ) → 0 < len → IsCharBoundary text len
    → PieceFits style text (numbered bytes number len)
unfolding numbered
numbered_fits style text bytes number len some end =
    cond_both (nat_lt number 256) _ _ (PieceFits style text) (λ _. record { fits = (some, end, tt) })
    (λ _. cond_both (is_scalar number && not bytes) _ _ (PieceFits style text) (λ _. record { fits = (some, end, tt) }) (λ _. record { fits = (end, some) }))

newline_boundary : (text : List ℕ) → IsUtf8 text → IsCharBoundary text (newline_len text)
newline_boundary text utf8 =
    let b0 = get_or text 0 0 in
    let b1 = get_or text 1 0 in
    let feed : (b0 == 10) ≡ true → IsCharBoundary text 1 = λ t. let e : b0 ≡ 10 = eqb-true b0 10 t in after_ascii text 0 utf8 (omega arith) (omega arith) in
    let both : (b0 == 13 && b1 == 10) ≡ true → IsCharBoundary text 2 = λ t. let e : b1 ≡ 10 = eqb-true b1 10 (and_parts (b0 == 13) (b1 == 10) t).1 in
    after_ascii text 1 utf8 (omega arith) (omega arith) in
    cond_both (b0 == 10) 1 _ (IsCharBoundary text) feed (λ _. cond_both (b0 == 13 && b1 == 10) 2 0 (IsCharBoundary text) both
    (λ _. IsCharBoundary-start text utf8))

octal_fits : (style : Style) (text : List ℕ) (bytes : Bool) → IsUtf8 text → get_or text 0 0 ≡ 92 → PieceFits style text (octal_escape bytes (drop 1 text))
unfolding octal_escape
octal_fits style text bytes utf8 here =
    let after = drop 1 text in
    numbered_fits style text bytes _ _ (omega arith) (after_first text _ utf8 (omega arith) (omega arith) (digits_boundary 8 3 after (omega arith)))

-- after a `\`, a letter and digits
digits_end : (text : List ℕ) (most letter : ℕ) → IsUtf8 text → get_or text 0 0 ≡ 92 → get_or (drop 1 text) 0 0 ≡ letter → 0 < letter → letter < 128
    → IsCharBoundary text (2 + digits_len 16 most (drop 1 (drop 1 text)))
digits_end text most letter utf8 here there some ascii =
    let after = drop 1 text in
    let n = digits_len 16 most (drop 1 after) in
    let e : 1 + (1 + n) ≡ 2 + n = omega arith in
    subst (IsCharBoundary text) e (after_first text (1 + n) utf8 (omega arith) (omega arith)
    (λ utf8_after. after_first after n utf8_after (omega arith) (omega arith) (digits_boundary 16 most (drop 1 after) (omega arith))))

hex_fits : (style : Style) (text : List ℕ) (bytes : Bool) → IsUtf8 text → get_or text 0 0 ≡ 92 → get_or (drop 1 text) 0 0 ≡ 120
    → PieceFits style text (hex_escape bytes (drop 1 (drop 1 text)))
unfolding hex_escape
hex_fits style text bytes utf8 here there =
    let n = digits_len 16 2 (drop 1 (drop 1 text)) in
    let end = digits_end text 2 120 utf8 here there (omega arith) (omega arith) in
    cond_both (n == 2) _ _ (PieceFits style text)
    (λ t. let e : 2 + n ≡ 4 = omega (arith, eqb-true n 2 t) in numbered_fits style text bytes _ 4 (omega arith) (subst (IsCharBoundary text) e end))
    (λ _. record { fits = (end, omega arith) })

unicode_fits : (style : Style) (text : List ℕ) (count letter : ℕ) → IsUtf8 text → get_or text 0 0 ≡ 92 → get_or (drop 1 text) 0 0 ≡ letter → 0 < letter
    → letter < 128
    → PieceFits style text (unicode_escape count (drop 1 (drop 1 text)))
unfolding unicode_escape
unicode_fits style text count letter utf8 here there some ascii =
    let n = digits_len 16 count (drop 1 (drop 1 text)) in
    let end = digits_end text count letter utf8 here there some ascii in
    cond_both (is_scalar (digits_value 16 (take n (drop 1 (drop 1 text)))) && n == count) _ _ (PieceFits style text)
    (λ _. record { fits = (omega arith, end, tt) }) (λ _. record { fits = (end, omega arith) })

simple_ascii : (letter c : ℕ) → simple_escape letter ≡ Some c → (0 < letter) × (letter < 128)
simple_ascii letter c e = (grind (arith, nat_tests), grind (arith, nat_tests))

letter_piece_fits : (style : Style) (text : List ℕ) (o : Option ℕ) → IsUtf8 text → get_or text 0 0 ≡ 92 → simple_escape (get_or (drop 1 text) 0 0) ≡ o
    → PieceFits style text (Ok (letter_piece o))
letter_piece_fits style text None utf8 here e = stands style text 1 (omega arith) (after_ascii text 0 utf8 (omega arith) (omega arith))
letter_piece_fits style text (Some c) utf8 here e =
    let bounds = simple_ascii (get_or (drop 1 text) 0 0) c e in
    let end : IsCharBoundary text 2 = after_first text 1 utf8 (omega arith) (omega arith) (λ u. after_ascii (drop 1 text) 0 u bounds.0 bounds.1) in
    record { fits = (omega arith, end, tt) }

letter_fits : (style : Style) (text : List ℕ) → IsUtf8 text → get_or text 0 0 ≡ 92 → PieceFits style text (Ok (letter_escape (get_or (drop 1 text) 0 0)))
unfolding letter_escape
letter_fits style text utf8 here = letter_piece_fits style text (simple_escape (get_or (drop 1 text) 0 0)) utf8 here refl

pub escape_fits : (style : Style) (text : List ℕ) (bytes : Bool) → IsUtf8 text → get_or text 0 0 ≡ 92 → PieceFits style text (escape bytes text)
unfolding escape
escape_fits style text bytes utf8 here =
    let after = drop 1 text in
    let letter = get_or after 0 0 in
    let joined = newline_len after in
    cond_both (nat_lt 0 joined) _ _ (PieceFits style text)
    (λ _. record { fits = (omega arith, after_first text joined utf8 (omega arith) (omega arith) (newline_boundary after), IsCharBoundary-start text utf8) })
    (λ _. cond_both (is_between 48 55 letter) _ _ (PieceFits style text) (λ _. octal_fits style text bytes utf8 here)
    (λ _. cond_both (letter == 120) _ _ (PieceFits style text) (λ t. hex_fits style text bytes utf8 here (eqb-true letter 120 t))
    (λ _. cond_both (letter == 117) _ _ (PieceFits style text) (λ t. unicode_fits style text 4 117 utf8 here (eqb-true letter 117 t) (omega arith)
    (omega arith))
    (λ _. cond_both (letter == 85) _ _ (PieceFits style text) (λ t. unicode_fits style text 8 85 utf8 here (eqb-true letter 85 t) (omega arith) (omega arith))
    (λ _. letter_fits style text utf8 here)))))

-- ---- pieces

closed_boundary : (style : Style) (text : List ℕ) → IsUtf8 text → is_quote style.quote ≡ true → get_or text 0 0 ≡ style.quote
    → (style.triple && not (get_or text 1 0 == style.quote && get_or text 2 0 == style.quote)) ≡ false → IsCharBoundary text (quotes_len style.triple)
closed_boundary style text utf8 quote here e =
    let bounds = quote_ascii style.quote quote in
    let one : IsCharBoundary text 1 = after_ascii text 0 utf8 (omega arith) (omega arith) in
    let last : style.triple ≡ true → get_or text 2 0 ≡ style.quote = λ t. grind (arith, nat_tests) in
    let three : style.triple ≡ true → IsCharBoundary text 3 = λ t. let third = last t in after_ascii text 2 utf8 (omega arith) (omega arith) in
    cond_both style.triple 3 1 (IsCharBoundary text) three (λ _. one)

at_quote_fits : (style : Style) (text : List ℕ) → IsUtf8 text → is_quote style.quote ≡ true → get_or text 0 0 ≡ style.quote
    → PieceFits style text (at_quote style text)
unfolding at_quote
at_quote_fits style text utf8 quote here =
    let bounds = quote_ascii style.quote quote in
    cond_both (style.triple && not (get_or text 1 0 == style.quote && get_or text 2 0 == style.quote)) _ _ (PieceFits style text)
    (λ _. stands style text 1 (omega arith) (after_ascii text 0 utf8 (omega arith) (omega arith)))
    (λ f. record { fits = (closed_boundary style text utf8 quote here f, tt) })

raw_fits : (style : Style) (text : List ℕ) → IsUtf8 text → is_quote style.quote ≡ true → get_or text 0 0 ≡ 92
    → PieceFits style text (Ok (raw_backslash style text))
unfolding raw_backslash
raw_fits style text utf8 quote here =
    let bounds = quote_ascii style.quote quote in
    let next = get_or text 1 0 in
    let P : Piece → Type 0 = λ p. PieceFits style text (Ok p) in
    let ascii : (next == style.quote || next == 92) ≡ true → (0 < next) × (next < 128) = λ t. (grind (arith, nat_tests), grind (arith, nat_tests)) in
    cond_both (next == style.quote || next == 92) (as_it_stands 2) (as_it_stands 1) P
    (λ t. stands style text 2 (omega arith) (after_ascii text 1 utf8 (ascii t).0 (ascii t).1))
    (λ _. stands style text 1 (omega arith) (after_ascii text 0 utf8 (omega arith) (omega arith)))

at_brace_fits : (style : Style) (text : List ℕ) (stop : Stop) → IsUtf8 text → 0 < get_or text 0 0 → get_or text 0 0 < 128 → stop_len style stop ≡ 1
    → HasBytes stop
    → PieceFits style text (at_brace stop text)
unfolding at_brace
at_brace_fits style text stop utf8 some ascii one bytes =
    let first = get_or text 0 0 in
    let next = get_or text 1 0 in
    let here : IsCharBoundary text 1 = after_ascii text 0 utf8 some ascii in
    cond_both (next == first) _ _ (PieceFits style text)
    (λ t. let e = eqb-true next first t in record { fits = (omega arith, after_ascii text 1 utf8 (omega arith) (omega arith), here) })
    (λ _. record { fits = (rw one here, bytes) })

at_newline_fits : (style : Style) (text : List ℕ) → IsUtf8 text → PieceFits style text (at_newline text)
unfolding at_newline
at_newline_fits style text utf8 =
    let b0 = get_or text 0 0 in
    cond_both (b0 == 13 && not (get_or text 1 0 == 10)) _ _ (PieceFits style text)
    (λ t. let e = eqb-true b0 13 (and_parts _ _ t).0 in stands style text 1 (omega arith) (after_ascii text 0 utf8 (omega arith) (omega arith)))
    (λ _. record { fits = (IsCharBoundary-start text utf8, tt) })

special_fits : (style : Style) (text : List ℕ) → IsUtf8 text → is_quote style.quote ≡ true → PieceFits style text (special style text)
unfolding special
special_fits style text utf8 quote =
    let first = get_or text 0 0 in
    cond_both (first == style.quote) _ _ (PieceFits style text) (λ t. at_quote_fits style text utf8 quote (eqb-true first style.quote t))
    (λ _. cond_both (first == 92) _ _ (PieceFits style text)
    (λ t. let here = eqb-true first 92 t in
    cond_both style.raw _ _ (PieceFits style text) (λ _. raw_fits style text utf8 quote here) (λ _. escape_fits style text style.bytes utf8 here))
    (λ _. cond_both (first == 123) _ _ (PieceFits style text) (λ t. let e = eqb-true first 123 t in
    at_brace_fits style text Hole utf8 (omega arith) (omega arith) refl tt)
    (λ _. cond_both (first == 125) _ _ (PieceFits style text) (λ t. let e = eqb-true first 125 t in
    at_brace_fits style text LoneBrace utf8 (omega arith) (omega arith) refl tt)
    (λ _. at_newline_fits style text utf8))))

not_plain_ascii : (style : Style) (b : ℕ) → style.quote < 128 → is_plain style b ≡ false → b < 128
not_plain_ascii style b quote e = grind (arith, nat_tests)

plain_boundary : (style : Style) (text : List ℕ) → is_quote style.quote ≡ true → IsCharBoundary text (prefix_len (is_plain style) text)
plain_boundary style text quote =
    let n = prefix_len (is_plain style) text in
    elim (cases_lt n (length text)) [
      | inl within ↦ IsCharBoundary-before_ascii text n within (not_plain_ascii style _ (quote_ascii style.quote quote).1
          (prefix_len_stops (is_plain style) text 0 within))
      | inr past ↦ subst (IsCharBoundary text) (omega (arith, prefix_len-le-length (is_plain style) text)) (IsCharBoundary-end text)
    ]

pub piece_fits : (style : Style) (text : List ℕ) → IsUtf8 text → is_quote style.quote ≡ true → PieceFits style text (piece style text)
unfolding piece
piece_fits style text utf8 quote =
    let n = prefix_len (is_plain style) text in
    cond_both (nat_lt 0 n) _ _ (PieceFits style text) (λ t. stands style text n (ltb-true 0 n t) (plain_boundary style text quote))
    (λ _. special_fits style text utf8 quote)

pub piece_ends : (style : Style) (text : List ℕ) (r : Result Piece Stop) → IsUtf8 text → is_quote style.quote ≡ true → piece style text ≡ r
    → EndsAtChars style text r
piece_ends style text r utf8 quote e = (subst (PieceFits style text) e (piece_fits style text utf8 quote)).fits
