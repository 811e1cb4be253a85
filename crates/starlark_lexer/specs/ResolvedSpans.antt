use Rattle.std.specs.Prelude.{ℕ, List, ◌++◌, codes}
use Rattle.starlark_lexer.specs.Places.{Place, place_of, places_text}
use Rattle.starlark_lexer.specs.declared.codemap.ResolvedPos.{ResolvedPos}
use Rattle.starlark_lexer.specs.declared.codemap.FileSpan.{FileSpan}

abbrev pub place : ResolvedPos → Place
place at = record { line = at.line; column = at.column }

-- the name of the file, and the lines and columns
abbrev pub file_span_text : FileSpan → List ℕ
file_span_text s =
    s.file.name ++ codes ":" ++ places_text (place_of s.file.text s.span.begin.byte) (place_of s.file.text s.span.end.byte)
