use Rattle.std.proofs.Common.{string_bytes}
use Rattle.starlark_diagnostics.specs.DiagnosticViews.{seen}
use Rattle.starlark_cli.proofs.ToolLemmas.Modules.{prints_unsaid}
use Rattle.starlark_cli.proofs.tool.module.report_of_unsaid.Goals as goal

pub returns : goal.returns
returns c =
    prints_unsaid c.args.codemap.now c.args.span (seen c.in_ok-diagnostic.diagnostic) (string_bytes c.new.result) (string_bytes c.in_ok-err.err)
    c.filename.result.now c.with_error.result c.in_ok-diagnostic.ensures c.filename.ensures c.new.ensures.bytes c.in_ok-err.ensures c.with_error.ensures
