-- The lines of loads.
use Rattle.std.specs.Prelude.{◌++◌, codes, flat_map}
use Rattle.starlark_lexer.specs.Places.{File, place_of, places_text}
use Rattle.starlark_lexer.specs.Tokens.{Span, Text}
use Rattle.starlark_passes.specs.Outline.Outline.{Load}
use Rattle.starlark_tree.specs.Literals.{quoted}
use Rattle.starlark_cli.specs.Symbols.{symbol_text}

-- the file, and the lines and columns of a span
abbrev pub place_text : File → Span → Text
place_text file span = file.name ++ codes ":" ++ places_text (place_of file.text span.begin) (place_of file.text span.end)

abbrev pub load_line : File → Load → Text
load_line file load = place_text file load.span ++ codes ": " ++ quoted load.module_id ++ flat_map symbol_text load.symbols ++ codes "\n"
