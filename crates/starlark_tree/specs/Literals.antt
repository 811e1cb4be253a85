-- The displayed text of literals.
use Rattle.std.specs.Prelude.{ℕ, ◌+◌, ◌/◌, ◌%◌, [], ◌∷◌, ◌++◌, flat_map, codes, ◌==◌, nat_le, ◌&&◌, if◌then◌else◌}
use Rattle.starlark_lexer.specs.Tokens.{Text}
use Rattle.starlark_lexer.specs.TokenText.{number_text}
use Rattle.starlark_tree.specs.Ast as t

-- a byte of a string: line feed, tab, carriage return, 0, `"` and `\` have an escape
abbrev pub escaped : ℕ → Text
escaped b =
    if b == 10 then codes "\\n" else if b == 9 then codes "\\t" else if b == 13 then codes "\\r"
    else if b == 0 then codes "\\0" else if b == 34 then codes "\\\"" else if b == 92 then codes "\\\\" else b ∷ []

abbrev pub quoted : Text → Text
quoted text = codes "\"" ++ flat_map escaped text ++ codes "\""

-- in lower case
abbrev pub hex_digit : ℕ → ℕ
hex_digit n = if nat_le n 9 then 48 + n else 87 + n

-- a byte of a bytes literal: what is not printable ASCII is displayed in hexadecimal
abbrev pub escaped_byte : ℕ → Text
escaped_byte b =
    if b == 34 then codes "\\\"" else if b == 92 then codes "\\\\" else if b == 10 then codes "\\n" else if b == 13 then codes "\\r"
    else if b == 9 then codes "\\t" else if nat_le 32 b && nat_le b 126 then b ∷ []
    else codes "\\x" ++ hex_digit (b / 16) ∷ hex_digit (b % 16) ∷ []

abbrev pub quoted_bytes : Text → Text
quoted_bytes bytes = codes "b\"" ++ flat_map escaped_byte bytes ++ codes "\""

abbrev pub literal_text : t.Literal → Text
literal_text (t.Int s n) = number_text n
literal_text (t.Float w) = w.text
literal_text (t.String w) = quoted w.text
literal_text (t.Bytes w) = quoted_bytes w.text
literal_text t.Ellipsis = codes "..."
