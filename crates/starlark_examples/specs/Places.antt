-- The position of a span of a file, as it prints.
use Rattle.std.specs.Prelude.{◌++◌, codes}
use Rattle.starlark_syntax.specs.lexer.Places.{File, place_of, places_text}
use Rattle.starlark_syntax.specs.lexer.Tokens.{Span, Text}

-- the name of the file, and the lines and columns
abbrev pub place : File → Span → Text
place file span = file.name ++ codes ":" ++ places_text (place_of file.text span.begin) (place_of file.text span.end)
