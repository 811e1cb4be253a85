use Rattle.std.proofs.Common.{sym, ◌∙◌}
use Rattle.starlark_expected.proofs.Starts.{begins_comparison}
use Rattle.starlark_expected.proofs.start.not_test.Goals as goal

pub returns : goal.returns
returns c =
    begins_comparison _ _ _ _ _ (sym c.is.ensures ∙ c.if-is.false) c.in_ok-push.ensures.items c.in_ok-begun.ensures.pushes c.tails.ensures c.unary.ensures
