-- The bytes of what a parse returns.
use Rattle.std.specs.Prelude.{ℕ, List as Seq, ◌++◌, flat_map, length, Option, Some, None}
use Rattle.starlark_compact.specs.Bytes.{number, count, sized, span_bytes}
use Rattle.starlark_compact.specs.Trees.{statement_bytes}
use Rattle.starlark_checks.specs.ErrorText.{error_text}
use Rattle.starlark_checks.specs.Kinds.{Kind, TextTooLong, Memory, UnexpectedToken, UnexpectedEnd, Lexer, Broken}
use Rattle.starlark_checks.specs.Refusals.{Place, Refusal}
use Rattle.starlark_lexer.specs.Places as places
use Rattle.starlark_lexer.specs.Tokens.{Span, Text}
use Rattle.starlark_spec.specs.Faults.{Grammar, Call, Params, TypeExpr, Dialect}
use Rattle.starlark_spec.specs.Faults as rules
use Rattle.starlark_tree.specs.Ast.{Statement, no_payload}

-- the first number is the version
abbrev pub versioned : Text → Text
versioned rest = number 1 ++ rest

abbrev pub spans_bytes : Seq Span → Text
spans_bytes ss = count (length ss) ++ flat_map span_bytes ss

-- of a module with these comments
abbrev pub module_bytes : Seq Span → Statement no_payload → Text
module_bytes comments s = versioned (number 0 ++ (spans_bytes comments ++ statement_bytes s))

-- never 0, which is a module's
abbrev pub error_number : Kind → ℕ
error_number TextTooLong = 1
error_number Memory = 2
error_number (Lexer e) = 3
error_number UnexpectedToken = 4
error_number UnexpectedEnd = 5
error_number (Broken (Grammar e)) = 6
error_number (Broken (Call e)) = 7
error_number (Broken (Params e)) = 8
error_number (Broken (TypeExpr e)) = 9
error_number (Broken (Dialect e)) = 10
error_number (Broken (rules.Place e)) = 11

-- a line and a column, both from 0
abbrev pub position_bytes : places.Place → Text
position_bytes at = number at.line ++ number at.column

-- 1, the byte offsets, and the lines and columns; or 0
abbrev pub place_bytes : Option Place → Text
place_bytes None = number 0
place_bytes (Some p) =
    number 1 ++ (span_bytes p.span
    ++ (position_bytes (places.place_of p.file.text p.span.begin) ++ position_bytes (places.place_of p.file.text p.span.end)))

abbrev pub error_bytes : Refusal → Text
error_bytes e = versioned (number (error_number e.kind) ++ (sized (error_text e.kind) ++ place_bytes e.place))
