use Rattle.std.proofs.Common.{rules, sym, ap, ◌∙◌}
use Rattle.std.proofs.lemmas.List.{take_all}
use Rattle.std.specs.List.{flat_map}
use Rattle.starlark_tree.specs.Places.{exprs_in_target}
use Rattle.starlark_validate.proofs.AddedExpressions.{then, at_places, grown}
use Rattle.starlark_tree.proofs.Nodes.{tuple_exprs, part_falls}
use Rattle.starlark_validate.proofs.children.+add_target.Goals as goal

pub add_target-requires : goal.add_target-requires
add_target-requires t c =
    let falls = part_falls c.in-Tuple.parts c.deref-part-items.result.now c.loop-part.part-index c.part-item.result c.args.target.now t c.loop-part-test.true
    c.part-item.is c.deref-part-items.ensures.value c.in-Tuple.is c.decreases in
    search rules

pub loop-part-preserved : goal.loop-part-preserved
loop-part-preserved t c =
    at_places (grown (λ x. exprs_in_target x.node) c.deref-part-items.result.now c.loop-part.part-index c.part-item.result c.loop-part-test.true c.part-item.is)
    (then c.loop-part.invariant (rw c.in_ok-add_target-in-Tuple.was at c.add_target.ensures))

pub returns-after-loop-part : goal.returns-after-loop-part
returns-after-loop-part t c =
    at_places
    (ap (flat_map (λ x. exprs_in_target x.node)) (take_all c.loop-part.part-index c.deref-part-items.result.now c.loop-part-test.false
    ∙ c.deref-part-items.ensures.value)
    ∙ sym (ap exprs_in_target c.in-Tuple.is ∙ tuple_exprs c.in-Tuple.parts))
    c.loop-part.invariant
