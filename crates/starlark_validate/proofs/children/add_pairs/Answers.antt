use Rattle.std.proofs.Common.{◌∷◌, []}
use Rattle.starlark_tree.specs.Views.{expression_of}
use Rattle.starlark_validate.proofs.AddedExpressions.{then, at_places, grown}
use Rattle.starlark_validate.proofs.children.add_pairs.Goals as goal

pub loop-pair-preserved : goal.loop-pair-preserved
loop-pair-preserved c =
    at_places (grown (λ p. expression_of p.0 ∷ expression_of p.1 ∷ []) c.args.pairs.now c.loop-pair.pair-index c.pair-item.result c.loop-pair-test.true
    c.pair-item.is)
    (then c.loop-pair.invariant (rw c.in_ok-add_two.was at c.add_two.ensures))
