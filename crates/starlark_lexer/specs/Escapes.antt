-- Escapes in strings and bytes literals.
use Rattle.std.specs.Prelude.{ℕ, ◌+◌, Bool, not, ◌&&◌, ◌||◌, ◌==◌, nat_lt, nat_le, if◌then◌else◌, take, drop, slice_index, Option, Some, None, Result, Ok, Err}
use Rattle.std.specs.List.{prefix_len}
use Rattle.std.specs.Str.Parse.{digits_value}
use Rattle.starlark_lexer.specs.declared.string.escape.Adds.{Adds}
use Rattle.starlark_lexer.specs.declared.string.escape.Adds.TheVariants.{Front, Char, Byte}
use Rattle.starlark_lexer.specs.declared.string.escape.Piece.{Piece}
use Rattle.starlark_lexer.specs.declared.string.escape.Stop.{Stop}
use Rattle.starlark_lexer.specs.declared.string.escape.Stop.TheVariants.{BadEscape}
use Rattle.starlark_lexer.specs.Newlines.{newline_len}
use Rattle.starlark_lexer.specs.Classes.{is_between, is_digit_of}
use Rattle.starlark_lexer.specs.Bytes.{line_feed, carriage_return, apostrophe, quotation_mark, backslash}
use Rattle.starlark_lexer.specs.Tokens.{Text}

abbrev pub piece_of : Adds → ℕ → Piece
piece_of adds len = record { adds = adds; len = len }

abbrev letter_a : ℕ
letter_a = 97

abbrev letter_b : ℕ
letter_b = 98

abbrev letter_f : ℕ
letter_f = 102

abbrev letter_n : ℕ
letter_n = 110

abbrev letter_r : ℕ
letter_r = 114

abbrev letter_t : ℕ
letter_t = 116

abbrev letter_u : ℕ
letter_u = 117

abbrev letter_v : ℕ
letter_v = 118

abbrev letter_x : ℕ
letter_x = 120

abbrev capital_u : ℕ
capital_u = 85

abbrev bell : ℕ
bell = 7

abbrev backspace : ℕ
backspace = 8

abbrev tab : ℕ
tab = 9

abbrev vertical_tab : ℕ
vertical_tab = 11

abbrev form_feed : ℕ
form_feed = 12

-- the character that a letter denotes after a `\`
abbrev pub simple_escape : ℕ → Option ℕ
simple_escape letter =
    if letter == letter_a then Some bell
    else if letter == letter_b then Some backspace
    else if letter == letter_f then Some form_feed
    else if letter == letter_n then Some line_feed
    else if letter == letter_r then Some carriage_return
    else if letter == letter_t then Some tab
    else if letter == letter_v then Some vertical_tab
    else if letter == backslash then Some backslash
    else if letter == apostrophe then Some apostrophe
    else if letter == quotation_mark then Some quotation_mark
    else None

-- a digit from 0 to 7
abbrev pub is_octal_digit : ℕ → Bool
is_octal_digit b = is_between 48 55 b

-- a Unicode scalar value
abbrev pub is_scalar : ℕ → Bool
is_scalar c = nat_lt c 0xD800 || (nat_le 0xE000 c && nat_le c 0x10_FFFF)

-- how many digits of a base are at the front, at most this many
abbrev pub digits_len : ℕ → ℕ → Text → ℕ
digits_len base most text = let run = prefix_len (is_digit_of base) text in if nat_lt run most then run else most

-- what an escape of this length that gives a number denotes: that byte, or past 255 that character, which does not fit a byte
unfoldable pub numbered : Bool → ℕ → ℕ → Result Piece Stop
numbered bytes number len =
    if nat_lt number 256 then Ok (piece_of (Byte number) len)
    else if is_scalar number && not bytes then Ok (piece_of (Char number) len)
    else Err (BadEscape len)

-- one to three octal digits after the `\`
unfoldable pub octal_escape : Bool → Text → Result Piece Stop
octal_escape bytes text = let n = digits_len 8 3 text in numbered bytes (digits_value 8 (take n text)) (1 + n)

-- two hexadecimal digits after `\x`
unfoldable pub hex_escape : Bool → Text → Result Piece Stop
hex_escape bytes text =
    let n = digits_len 16 2 text in
    if n == 2 then numbered bytes (digits_value 16 (take n text)) 4 else Err (BadEscape (2 + n))

-- this many hexadecimal digits after `\u` or `\U`, which denote a character
unfoldable pub unicode_escape : ℕ → Text → Result Piece Stop
unicode_escape count text =
    let n = digits_len 16 count text in
    let c = digits_value 16 (take n text) in
    if is_scalar c && n == count then Ok (piece_of (Char c) (2 + n)) else Err (BadEscape (2 + n))

-- an escape of one letter that denotes a character, or a `\` that stays
abbrev pub letter_piece : Option ℕ → Piece
letter_piece (Some c) = piece_of (Char c) 2
letter_piece None = piece_of (Front 1) 1

-- what a `\` before a letter denotes
unfoldable pub letter_escape : ℕ → Piece
letter_escape letter = letter_piece (simple_escape letter)

-- the piece that begins with a `\`, in a literal that is not raw
unfoldable pub escape : Bool → Text → Result Piece Stop
escape bytes text =
    let after = drop 1 text in
    let letter = slice_index after 0 in
    if nat_lt 0 (newline_len after) then Ok (piece_of (Front 0) (1 + newline_len after))
    else if is_octal_digit letter then octal_escape bytes after
    else if letter == letter_x then hex_escape bytes (drop 1 after)
    else if letter == letter_u then unicode_escape 4 (drop 1 after)
    else if letter == capital_u then unicode_escape 8 (drop 1 after)
    else Ok (letter_escape letter)
