use Rattle.starlark_tree.specs.Views.{expression_of}
use Rattle.starlark_validate.proofs.AddedExpressions.{then, at_places, grown_by_one}
use Rattle.starlark_validate.proofs.children.add_each.Goals as goal

pub loop-item-preserved : goal.loop-item-preserved
loop-item-preserved c =
    at_places (grown_by_one expression_of c.args.items.now c.loop-item.item-index c.item-item.result c.loop-item-test.true c.item-item.is)
    (then c.loop-item.invariant (rw c.in_ok-add_one.was at c.add_one.ensures))
