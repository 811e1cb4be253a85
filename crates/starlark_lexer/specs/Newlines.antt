-- The front of a text, and newlines.
use Rattle.std.specs.Prelude.{ℕ, ◌&&◌, ◌==◌, if◌then◌else◌, slice_index}
use Rattle.starlark_lexer.specs.Bytes.{line_feed, carriage_return}
use Rattle.starlark_lexer.specs.Tokens.{Text}

-- the first byte, or 0
abbrev pub first : Text → ℕ
first text = slice_index text 0

-- the length of the newline at the front: a line feed, alone or after a carriage return
abbrev pub newline_len : Text → ℕ
newline_len text = if first text == line_feed then 1 else if first text == carriage_return && slice_index text 1 == line_feed then 2 else 0
