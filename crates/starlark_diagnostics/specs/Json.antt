-- A diagnostic as JSON.
use Rattle.std.specs.Prelude.{◌++◌, List, [], ◌∷◌, Option, Some, None, codes, decimal}
use Rattle.json.specs.Json.{Json, null, number, string, array, object, Items, no_items, item, Members, no_members, member}
use Rattle.json.specs.Print.{print}
use Rattle.json.specs.Tree.{json_tokens}
use Rattle.starlark_lexer.specs.Places.{File, Place}
use Rattle.starlark_lexer.specs.Tokens.{Span, Text}
use Rattle.starlark_diagnostics.specs.Codes.{code_name}
use Rattle.starlark_diagnostics.specs.Ends.{Ends, ends_of}
use Rattle.starlark_diagnostics.specs.DiagnosticViews.{Diagnostic, Note}
use Rattle.starlark_diagnostics.specs.Severities.{severity_name}

-- [begin,end], the byte offsets of a span, or null
abbrev pub span_json : Option Span → Json
span_json None = null
span_json (Some s) = array (item (number (decimal s.begin)) (item (number (decimal s.end)) no_items))

-- a line and a column, both from 0
abbrev pub position_json : Place → Json
position_json at = object (member (codes "line") (number (decimal at.line)) (member (codes "column") (number (decimal at.column)) no_members))

-- where a span begins, or null
abbrev pub begin_json : Option Ends → Json
begin_json None = null
begin_json (Some ends) = position_json ends.begin

-- where it ends, or null
abbrev pub end_json : Option Ends → Json
end_json None = null
end_json (Some ends) = position_json ends.end

-- the fields of a span, and further ones
abbrev pub placed : Option File → Option Span → Members → Members
placed file span fields =
    member (codes "span") (span_json span)
    (member (codes "begin") (begin_json (ends_of file span)) (member (codes "end") (end_json (ends_of file span)) fields))

abbrev pub note_json : Option File → Note → Json
note_json file n = object (member (codes "message") (string n.message) (placed file n.span no_members))

abbrev pub each_json : (Note → Json) → List Note → Items
each_json f [] = no_items
each_json f (n ∷ ns) = item (f n) (each_json f ns)

abbrev pub diagnostic_json : Text → Option File → Diagnostic → Json
diagnostic_json path file d =
    object (member (codes "code") (string (code_name d.code))
    (member (codes "severity") (string (severity_name d.severity))
    (member (codes "message") (string d.message)
    (member (codes "file") (string path)
    (placed file d.span (member (codes "notes") (array (each_json (note_json file) d.notes)) no_members))))))

-- a line
abbrev pub json_text : Text → Option File → Diagnostic → Text
json_text path file d = print (json_tokens (diagnostic_json path file d)) ++ codes "\n"
