-- A diagnostic as a result of SARIF 2.1.0.
use Rattle.std.specs.Prelude.{◌+◌, Option, Some, None, codes, decimal}
use Rattle.json.specs.Json.{Json, number, string, array, object, no_items, item, Members, no_members, member}
use Rattle.json.specs.Print.{print}
use Rattle.json.specs.Tree.{json_tokens}
use Rattle.percent_encoding.specs.Percent.{percent_encode}
use Rattle.starlark_lexer.specs.Places.{File}
use Rattle.starlark_lexer.specs.Tokens.{Text}
use Rattle.starlark_diagnostics.specs.Codes.{code_name}
use Rattle.starlark_diagnostics.specs.Ends.{Ends, ends_of}
use Rattle.starlark_diagnostics.specs.Json.{each_json}
use Rattle.starlark_diagnostics.specs.DiagnosticViews.{Diagnostic, Note}
use Rattle.starlark_diagnostics.specs.Severities.{severity_name}
use Rattle.starlark_diagnostics.specs.declared.emit.sarif.TheConstants.{ESCAPED}

-- the path, with each byte that is not a letter, a digit or one of `-._~/` as `%` and two digits
abbrev pub uri : Text → Text
uri path = percent_encode ESCAPED path

abbrev pub message_json : Text → Json
message_json message = object (member (codes "text") (string message) no_members)

-- the lines and columns of a span, from 1, the columns in characters
abbrev pub region_json : Ends → Json
region_json ends =
    object (member (codes "startLine") (number (decimal (ends.begin.line + 1)))
    (member (codes "startColumn") (number (decimal (ends.begin.column + 1)))
    (member (codes "endLine") (number (decimal (ends.end.line + 1)))
    (member (codes "endColumn") (number (decimal (ends.end.column + 1))) no_members))))

abbrev pub region_field : Option Ends → Members
region_field None = no_members
region_field (Some ends) = member (codes "region") (region_json ends) no_members

-- a place in the file, or the whole file
abbrev pub physical_json : Text → Option Ends → Json
physical_json file ends =
    object (member (codes "artifactLocation") (object (member (codes "uri") (string file) no_members)) (region_field ends))

abbrev pub location_json : Text → Option Ends → Json
location_json file ends = object (member (codes "physicalLocation") (physical_json file ends) no_members)

abbrev pub note_json : Text → Option File → Note → Json
note_json path file n =
    object (member (codes "message") (message_json n.message) (member (codes "physicalLocation") (physical_json path (ends_of file n.span)) no_members))

abbrev pub result_json : Text → Option File → Diagnostic → Json
result_json path file d =
    object (member (codes "ruleId") (string (code_name d.code))
    (member (codes "level") (string (severity_name d.severity))
    (member (codes "message") (message_json d.message)
    (member (codes "locations") (array (item (location_json path (ends_of file d.span)) no_items))
    (member (codes "relatedLocations") (array (each_json (note_json path file) d.notes)) no_members)))))

abbrev pub sarif_text : Text → Option File → Diagnostic → Text
sarif_text path file d = print (json_tokens (result_json (uri path) file d))
