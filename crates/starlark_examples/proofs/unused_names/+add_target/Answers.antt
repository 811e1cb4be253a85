use Rattle.starlark_syntax.specs.tree.Places.{lvalues}
use Rattle.starlark_syntax.specs.tree.Views.{target_of}
use Rattle.starlark_syntax.proofs.outline.Outlines.{all_parts, one_more}
use Rattle.starlark_examples.proofs.BoundNames.{tuple_names}
use Rattle.starlark_examples.proofs.unused_names.+add_target.Goals as goal

pub loop-part-preserved : goal.loop-part-preserved
loop-part-preserved t c =
    one_more (λ x. lvalues (target_of x)) c.deref-part-items.result.now c.loop-part.part-index c.part-item.result _ _ _ c.loop-part-test.true c.part-item.is
    c.loop-part.invariant c.in_ok-add_target-in-Tuple.ensures

pub returns-after-loop-part : goal.returns-after-loop-part
returns-after-loop-part t c =
    all_parts (λ x. lvalues (target_of x)) c.deref-part-items.result.now c.in-Tuple.parts.items c.loop-part.part-index _ _ _ c.loop-part-test.false
    c.deref-part-items.ensures.value
    (tuple_names c.args.target.now c.in-Tuple.parts c.in-Tuple.is) c.loop-part.invariant
