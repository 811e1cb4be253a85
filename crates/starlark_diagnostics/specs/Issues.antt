-- The code of an issue.
use Rattle.std.specs.Prelude.{if◌then◌else◌}
use Rattle.std.specs.Str.{bytes_eq}
use Rattle.starlark_lexer.specs.Tokens.{Text}
use Rattle.starlark_passes.specs.Lint.LintIssues.{unused_load}
use Rattle.starlark_diagnostics.specs.declared.code.Code.{Code}
use Rattle.starlark_diagnostics.specs.declared.code.Code.TheVariants as code

abbrev pub issue_code : Text → Code
issue_code name = if bytes_eq name unused_load then code.UnusedLoad else code.DuplicateKey
