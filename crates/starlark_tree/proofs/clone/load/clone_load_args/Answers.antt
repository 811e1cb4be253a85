use Rattle.starlark_tree.proofs.Copies.{one_more_made, whole}
use Rattle.starlark_tree.proofs.clone.load.clone_load_args.Goals as goal

pub loop-item-preserved : goal.loop-item-preserved
loop-item-preserved g c =
    one_more_made _ c.deref-item-items.result.now c.loop-item.copies.items _ c.loop-item.item-index c.item-item.result _ c.loop-item-test.true c.item-item.is
    c.loop-item.invariant c.in_ok-push_made.ensures
    (c.clone_load_arg.ensures)

pub returns : goal.returns
returns g c =
    whole _ c.deref-item-items.result.now _ _ c.loop-item.item-index c.loop-item-test.false c.deref-item-items.ensures.value c.loop-item.invariant
