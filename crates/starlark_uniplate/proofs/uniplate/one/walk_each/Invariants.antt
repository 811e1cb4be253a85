use Rattle.starlark_tree.specs.Views.{expression_of}
use Rattle.starlark_uniplate.proofs.Calls.{CameTo}
use Rattle.starlark_uniplate.proofs.uniplate.one.walk_each.Given as goal

abbrev pub invariant-loop-item : goal.invariant-loop-item
invariant-loop-item g l = CameTo g.G.AtExpr.calls expression_of l.item-index l.fn.state l.items l.state
