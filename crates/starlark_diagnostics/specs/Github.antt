-- A diagnostic as a command of GitHub's workflows.
use Rattle.std.specs.Prelude.{◌+◌, ◌++◌, [], Option, Some, None, codes, decimal}
use Rattle.starlark_lexer.specs.Tokens.{Text}
use Rattle.starlark_diagnostics.specs.Codes.{code_name}
use Rattle.starlark_diagnostics.specs.Ends.{Ends}
use Rattle.starlark_diagnostics.specs.DiagnosticViews.{Diagnostic}
use Rattle.starlark_diagnostics.specs.Severities.{severity_name}
use Rattle.starlark_diagnostics.specs.Written.{written}
use Rattle.starlark_diagnostics.specs.declared.emit.written.Style.TheVariants as style

-- the lines and columns of a span, from 1
abbrev pub region_text : Option Ends → Text
region_text None = []
region_text (Some ends) =
    codes ",line=" ++ (decimal (ends.begin.line + 1) ++ (codes ",col=" ++ (decimal (ends.begin.column + 1)
    ++ (codes ",endLine=" ++ (decimal (ends.end.line + 1) ++ (codes ",endColumn=" ++ decimal (ends.end.column + 1)))))))

abbrev pub github_text : Text → Option Ends → Diagnostic → Text
github_text path ends d =
    codes "::" ++ (severity_name d.severity ++ (codes " file=" ++ (written style.Property path ++ (region_text ends
    ++ (codes ",title=" ++ (code_name d.code ++ (codes "::" ++ (written style.Data d.message ++ codes "\n"))))))))
