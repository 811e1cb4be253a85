use Rattle.std.proofs.Common.{rules}
use Rattle.std.proofs.lemmas.List.{take_all}
use Rattle.starlark_tree.specs.Names.{lvalues_of}
use Rattle.starlark_tree.proofs.Steps.{same_err}
use Rattle.starlark_tree.proofs.Loops.{may_item, item_more, item_stops}
use Rattle.starlark_tree.proofs.Nodes.{part_falls}
use Rattle.starlark_tree.proofs.BoundNames.{tuple_lvalues}
use Rattle.starlark_uniplate.proofs.uniplate.lvalue.+walk_lvalues.Goals as goal

pub walk_lvalues-requires : goal.walk_lvalues-requires
walk_lvalues-requires g t c κs within =
    let whole = rw (← c.deref-part-items.ensures.value) at (rw (tuple_lvalues c.in-Tuple.parts) at (rw c.in-Tuple.is at c.requires)) in
    let takes = may_item (λ x. lvalues_of x.node) c.deref-part-items.result.now c.loop-part.part-index c.part-item.result c.loop-part-test.true c.part-item.is
    c.loop-part.invariant whole in
    let falls = part_falls c.in-Tuple.parts c.deref-part-items.result.now c.loop-part.part-index c.part-item.result c.args.target.now t c.loop-part-test.true
    c.part-item.is c.deref-part-items.ensures.value c.in-Tuple.is c.decreases in
    search rules

pub returns-in_err-walk_lvalues-in-Tuple : goal.returns-in_err-walk_lvalues-in-Tuple
returns-in_err-walk_lvalues-in-Tuple g t c =
    let stopped = item_stops (λ x. lvalues_of x.node) c.deref-part-items.result.now c.loop-part.part-index c.part-item.result c.loop-part-test.true
    c.part-item.is c.loop-part.invariant (rw c.in_err-walk_lvalues-in-Tuple.was at c.walk_lvalues.ensures) in
    rw (c.in-Tuple.is, tuple_lvalues c.in-Tuple.parts, same_err c.from_residual.result c.in_err-walk_lvalues-in-Tuple.field-0.0 c.from_residual.ensures.1)
    (rw c.deref-part-items.ensures.value at stopped)

pub loop-part-preserved : goal.loop-part-preserved
loop-part-preserved g t c =
    item_more (λ x. lvalues_of x.node) c.deref-part-items.result.now c.loop-part.part-index c.part-item.result c.loop-part-test.true c.part-item.is
    c.loop-part.invariant (rw c.in_ok-walk_lvalues-in-Tuple.was at c.walk_lvalues.ensures)

pub returns-after-loop-part : goal.returns-after-loop-part
returns-after-loop-part g t c =
    let done = rw (take_all c.loop-part.part-index c.deref-part-items.result.now c.loop-part-test.false) at c.loop-part.invariant in
    rw (c.in-Tuple.is, tuple_lvalues c.in-Tuple.parts) (rw c.deref-part-items.ensures.value at done)
