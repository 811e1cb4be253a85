-- How string literals, bytes literals and f-strings open.
use Rattle.std.specs.Prelude.{ℕ, ◌+◌, Bool, true, false, ◌&&◌, ◌||◌, ◌==◌, if◌then◌else◌, slice_index, Option, Some, None}
use Rattle.starlark_lexer.specs.declared.string.opening.Style.{Style}
use Rattle.starlark_lexer.specs.declared.string.opening.Prefix.{Prefix}
use Rattle.starlark_lexer.specs.Bytes.{apostrophe, quotation_mark}
use Rattle.starlark_lexer.specs.Tokens.{Text}

abbrev pub prefix_of : ℕ → Bool → Bool → Bool → Prefix
prefix_of len raw bytes format = record { len = len; raw = raw; bytes = bytes; format = format }

abbrev letter_b : ℕ
letter_b = 98

abbrev letter_f : ℕ
letter_f = 102

abbrev letter_r : ℕ
letter_r = 114

-- the prefix that two bytes begin with: `r b rb br f fr rf`, or none
unfoldable pub prefix : ℕ → ℕ → Prefix
prefix first second =
    if first == letter_r && second == letter_b then prefix_of 2 true true false
    else if first == letter_b && second == letter_r then prefix_of 2 true true false
    else if first == letter_f && second == letter_r then prefix_of 2 true false true
    else if first == letter_r && second == letter_f then prefix_of 2 true false true
    else if first == letter_r then prefix_of 1 true false false
    else if first == letter_b then prefix_of 1 false true false
    else if first == letter_f then prefix_of 1 false false true
    else prefix_of 0 false false false

-- a single or double quote
abbrev pub is_quote : ℕ → Bool
is_quote b = b == apostrophe || b == quotation_mark

-- the length of the opening quotes, and of the closing ones
abbrev pub quotes_len : Bool → ℕ
quotes_len triple = if triple then 3 else 1

-- how the literal at the front is read, and the length of its prefix and opening quotes
unfoldable pub opening : Text → Option (Style × ℕ)
opening text =
    let p = prefix (slice_index text 0) (slice_index text 1) in
    let quote = slice_index text p.len in
    let triple = slice_index text (p.len + 1) == quote && slice_index text (p.len + 2) == quote in
    if is_quote quote then Some (record { quote = quote; triple = triple; raw = p.raw; bytes = p.bytes; format = p.format }, p.len + quotes_len triple)
    else None
