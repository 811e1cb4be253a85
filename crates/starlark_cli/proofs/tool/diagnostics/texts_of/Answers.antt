use Rattle.std.proofs.Common.{refl, string_bytes}
use Rattle.starlark_diagnostics.specs.Emit.{separator}
use Rattle.starlark_cli.proofs.ToolLemmas.Reporting.{texts_more}
use Rattle.starlark_cli.proofs.tool.diagnostics.texts_of.Goals as goal

pub loop-diagnostic-preserved : goal.loop-diagnostic-preserved
loop-diagnostic-preserved c =
    texts_more _ (separator c.args.format) c.args.follows c.loop-diagnostic.follows c.args.diagnostics.now c.loop-diagnostic.diagnostic-index
    c.diagnostic-item.result (string_bytes c.loop-diagnostic.texts) _ _ c.loop-diagnostic-test.true c.diagnostic-item.is c.loop-diagnostic.invariant refl
    c.in_ok-push_text.ensures
