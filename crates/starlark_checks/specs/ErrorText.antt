-- The text of each error, which its `Display` prints, and its line.
use Rattle.std.specs.Prelude.{◌++◌, Option, Some, None, codes}
use Rattle.starlark_lexer.specs.TokenText.{kind_name}
use Rattle.starlark_lexer.specs.Places.{place_of, places_text}
use Rattle.starlark_lexer.specs.Tokens.{Text}
use Rattle.starlark_spec.specs.Texts.{rule_text}
use Rattle.starlark_checks.specs.Kinds as kinds
use Rattle.starlark_checks.specs.Kinds.{Kind}
use Rattle.starlark_checks.specs.Refusals.{Place, Refusal}

abbrev pub error_text : Kind → Text
error_text kinds.TextTooLong = codes "text is longer than 4294967295 bytes"
error_text kinds.Memory = codes "out of memory"
error_text (kinds.Lexer error) = kind_name error.kind
error_text kinds.UnexpectedToken = codes "Parse error: unexpected token"
error_text kinds.UnexpectedEnd = codes "Parse error: unexpected end of file"
error_text (kinds.Broken rule) = rule_text rule

-- the file, and the lines and columns of the span
abbrev pub position_text : Place → Text
position_text p = p.file.name ++ codes ":" ++ places_text (place_of p.file.text p.span.begin) (place_of p.file.text p.span.end)

-- a text at a position, if it has one
abbrev pub text_at : Option Place → Text → Text
text_at None text = text
text_at (Some place) text = position_text place ++ (codes ": " ++ text)

-- where it is, if it has a position, and its text
abbrev pub line_text : Refusal → Text
line_text refusal = text_at refusal.place (error_text refusal.kind)
