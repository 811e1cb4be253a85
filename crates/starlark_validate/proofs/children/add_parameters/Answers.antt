use Rattle.starlark_tree.specs.Places.{exprs_in_parameter}
use Rattle.starlark_validate.proofs.AddedExpressions.{then, at_places, grown}
use Rattle.starlark_validate.proofs.children.add_parameters.Goals as goal

pub loop-parameter-preserved : goal.loop-parameter-preserved
loop-parameter-preserved c =
    at_places (grown (λ p. exprs_in_parameter p.node) c.args.parameters.now c.loop-parameter.parameter-index c.parameter-item.result
    c.loop-parameter-test.true c.parameter-item.is)
    (then c.loop-parameter.invariant (rw c.in_ok-add_parameter.was at c.add_parameter.ensures))
