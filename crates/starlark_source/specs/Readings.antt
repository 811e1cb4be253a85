-- How the lexer reads a text, if the text is one token.
use Rattle.std.specs.Prelude.{ℕ, ◌^◌, ◌==◌, ◌&&◌, nat_lt, Bool, true, false, if◌then◌else◌, length, Option, Some, None, Result, Ok, Err}
use Rattle.starlark_lexer.specs.Tokens.{Text, Terminal, Lexeme, LexerFault, Int, Number, small, large}
use Rattle.starlark_lexer.specs.Tokens as tokens
use Rattle.starlark_lexer.specs.Lexemes.{Step, start, step}
use Rattle.starlark_source.specs.declared.reading.Reading.{Reading}
use Rattle.starlark_source.specs.declared.reading.Reading.TheVariants as readings

-- a token of n bytes from the start
abbrev pub whole_token : ℕ → Result Lexeme LexerFault → Option Terminal
whole_token n (Ok l) = if l.span.begin == 0 && l.span.end == n then Some l.token else None
whole_token n (Err e) = None

abbrev pub whole_of : ℕ → Option Step → Option Terminal
whole_of n None = None
whole_of n (Some p) = whole_token n p.0

-- the token that the lexer reads first, if it is all of the text
unfoldable pub only_token : Text → Option Terminal
only_token text = if nat_lt (length text) (2 ^ 32) then whole_of (length text) (step (start text)) else None

abbrev pub reading_of : Option Terminal → Reading
reading_of (Some (tokens.Identifier name)) = readings.Name
reading_of (Some (tokens.Float text)) = readings.Float
reading_of (Some (Int (large text))) = readings.LargeInt
reading_of _ = readings.Other

-- how a text is read
abbrev pub reads : Text → Reading
reads text = reading_of (only_token text)

abbrev pub is_name_reading : Reading → Bool
is_name_reading readings.Name = true
is_name_reading _ = false

abbrev pub is_float_reading : Reading → Bool
is_float_reading readings.Float = true
is_float_reading _ = false

abbrev pub is_large_reading : Reading → Bool
is_large_reading readings.LargeInt = true
is_large_reading _ = false

-- a name that is neither a keyword nor a reserved word
abbrev pub is_name : Text → Bool
is_name text = is_name_reading (reads text)

abbrev pub is_float : Text → Bool
is_float text = is_float_reading (reads text)

-- an integer of more than 32 bits
abbrev pub is_large_int : Text → Bool
is_large_int text = is_large_reading (reads text)
