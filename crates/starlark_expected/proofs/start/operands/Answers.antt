use Rattle.std.proofs.Common.{sym, ◌∙◌}
use Rattle.starlark_expected.proofs.Starts.{begins_loose, begins_tight}
use Rattle.starlark_expected.proofs.start.operands.Goals as goal

pub returns-then-is_loose : goal.returns-then-is_loose
returns-then-is_loose c =
    begins_loose _ _ _ _ _ c.args.of (sym c.is_loose.ensures ∙ c.if-is_loose.true) c.in_ok-begun.ensures.pushes c.tails.ensures c.not_test.ensures

pub returns-else-is_loose : goal.returns-else-is_loose
returns-else-is_loose c =
    begins_tight _ _ _ _ _ c.args.of (sym c.is_loose.ensures ∙ c.if-is_loose.false) c.in_ok-begun.ensures.pushes c.tails.ensures c.unary.ensures
