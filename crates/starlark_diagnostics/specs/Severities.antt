-- The names of severities.
use Rattle.std.specs.Prelude.{codes}
use Rattle.starlark_lexer.specs.Tokens.{Text}
use Rattle.starlark_diagnostics.specs.declared.diagnostic.Severity.{Severity}
use Rattle.starlark_diagnostics.specs.declared.diagnostic.Severity.TheVariants as severity

abbrev pub severity_name : Severity → Text
severity_name severity.Error = codes "error"
severity_name severity.Warning = codes "warning"
