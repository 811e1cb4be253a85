-- `file:line:col: error: message [code]`
use Rattle.std.specs.Prelude.{◌+◌, ◌++◌, Option, Some, None, codes, decimal}
use Rattle.starlark_lexer.specs.Tokens.{Text}
use Rattle.starlark_diagnostics.specs.Codes.{code_name}
use Rattle.starlark_diagnostics.specs.Ends.{Ends}
use Rattle.starlark_diagnostics.specs.DiagnosticViews.{Diagnostic}
use Rattle.starlark_diagnostics.specs.Severities.{severity_name}

-- the file, and where a span of it begins: the line and the column, both from 1, the column in characters
abbrev pub at_text : Text → Option Ends → Text
at_text path None = path
at_text path (Some ends) = path ++ (codes ":" ++ (decimal (ends.begin.line + 1) ++ (codes ":" ++ decimal (ends.begin.column + 1))))

abbrev pub short_text : Text → Option Ends → Diagnostic → Text
short_text path ends d =
    at_text path ends ++ (codes ": " ++ (severity_name d.severity ++ (codes ": " ++ (d.message ++ (codes " [" ++ (code_name d.code ++ codes "]\n"))))))
