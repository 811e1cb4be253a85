-- The diagnostics of files that cannot be read as text.
use Rattle.std.specs.Prelude.{◌++◌, [], None, codes}
use Rattle.starlark_lexer.specs.Tokens.{Text}
use Rattle.starlark_diagnostics.specs.DiagnosticViews.{Diagnostic}
use Rattle.starlark_diagnostics.specs.declared.code.Code.{Code}
use Rattle.starlark_diagnostics.specs.declared.code.Code.TheVariants as code
use Rattle.starlark_diagnostics.specs.declared.diagnostic.Severity.TheVariants as severity

-- an error of a whole file
abbrev pub file_error : Code → Text → Diagnostic
file_error c message = record { code = c; severity = severity.Error; message = message; span = None; notes = [] }

abbrev pub not_utf8 : Diagnostic
not_utf8 = file_error code.NotUtf8 (codes "the file is not UTF-8")

abbrev pub unreadable : Text → Diagnostic
unreadable reason = file_error code.Unreadable (codes "cannot read the file: " ++ reason)
