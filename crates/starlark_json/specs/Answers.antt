-- The JSON of the result of a parse.
use Rattle.std.specs.Prelude.{◌≡◌, List as Seq, [], ◌∷◌, map, codes, decimal, Option, Some, None, Result, Ok, Err}
use Rattle.json.specs.Json.{Json, null, number, string, array, object, Items, no_items, item, Members, no_members, member}
use Rattle.json.specs.Print.{print}
use Rattle.json.specs.Tree.{json_tokens}
use Rattle.starlark_spec.specs.Faults.{Grammar, Call, Params, TypeExpr, Dialect}
use Rattle.starlark_spec.specs.Faults as rules
use Rattle.starlark_checks.specs.Kinds.{Kind, TextTooLong, Memory, UnexpectedToken, UnexpectedEnd, Lexer, Broken}
use Rattle.starlark_checks.specs.ErrorText.{error_text}
use Rattle.starlark_checks.specs.Refusals.{Place, Refusal}
use Rattle.starlark_lexer.specs.Places as places
use Rattle.json.specs.Token.{Token}
use Rattle.starlark_lexer.specs.Tokens.{Span, Text, span_of}
use Rattle.starlark_lexer.specs.declared.span.Span.{Span as CodeSpan}
use Rattle.starlark_module.specs.declared.module.AstModule.{AstModule}
use Rattle.starlark_tree.specs.Ast.{Statement, no_payload}
use Rattle.starlark_tree.specs.Views.{statement_of}
use Rattle.starlark_json.specs.Tree.Fields.{span_json}
use Rattle.starlark_json.specs.Tree.Trees.{statement_json}

-- an object whose first field is the version of the schema
abbrev pub versioned : Members → Json
versioned fields = object (member (codes "version") (number (decimal 1)) fields)

abbrev pub spans_json : Seq Span → Items
spans_json [] = no_items
spans_json (s ∷ ss) = item (span_json s) (spans_json ss)

-- of the file of this name, with these comments
abbrev pub module_json : Text → Seq Span → Statement no_payload → Json
module_json name comments s =
    versioned (member (codes "file") (string name)
    (member (codes "comments") (array (spans_json comments)) (member (codes "statement") (statement_json s) no_members)))

abbrev pub kind_name : Kind → Text
kind_name TextTooLong = codes "TextTooLong"
kind_name Memory = codes "Memory"
kind_name (Lexer e) = codes "Lexer"
kind_name UnexpectedToken = codes "UnexpectedToken"
kind_name UnexpectedEnd = codes "UnexpectedEnd"
kind_name (Broken (Grammar e)) = codes "Grammar"
kind_name (Broken (Call e)) = codes "Call"
kind_name (Broken (Params e)) = codes "Params"
kind_name (Broken (TypeExpr e)) = codes "TypeExpr"
kind_name (Broken (Dialect e)) = codes "Dialect"
kind_name (Broken (rules.Place e)) = codes "Place"

-- a line and a column, both from 0
abbrev pub position_json : places.Place → Json
position_json at = object (member (codes "line") (number (decimal at.line)) (member (codes "column") (number (decimal at.column)) no_members))

-- the file, the byte offsets, and the lines and columns
abbrev pub place_fields : Option Place → Members
place_fields None = member (codes "file") null no_members
place_fields (Some p) =
    member (codes "file") (string p.file.name)
    (member (codes "span") (span_json p.span)
    (member (codes "begin") (position_json (places.place_of p.file.text p.span.begin))
    (member (codes "end") (position_json (places.place_of p.file.text p.span.end)) no_members)))

abbrev pub error_json : Refusal → Json
error_json e =
    versioned (member (codes "error") (string (kind_name e.kind))
    (member (codes "message") (string (error_text e.kind)) (place_fields e.place)))

-- the text is the JSON of a parse's result: of the module, or of the error
abbrev pub IsAnswer : Result AstModule Refusal → Text → Type 0
IsAnswer (Ok m) text = text ≡ print (json_tokens (module_json m.codemap.name (map span_of m.comments.items) (statement_of m.statement)))
IsAnswer (Err e) text = text ≡ print (json_tokens (error_json e))

-- the tokens of a span that the code holds
abbrev pub code_span_tokens : CodeSpan → Seq Token
code_span_tokens s = json_tokens (span_json (span_of s))
