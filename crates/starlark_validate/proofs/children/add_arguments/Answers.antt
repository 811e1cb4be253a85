use Rattle.starlark_tree.specs.Parts.{argument_expression}
use Rattle.starlark_tree.specs.Views.{expression_of}
use Rattle.starlark_validate.proofs.AddedExpressions.{then, at_places, grown_by_one}
use Rattle.starlark_validate.proofs.children.add_arguments.Goals as goal

pub loop-arg-preserved : goal.loop-arg-preserved
loop-arg-preserved c =
    at_places (grown_by_one (λ a. expression_of (argument_expression a.node)) c.args.args.now c.loop-arg.arg-index c.arg-item.result c.loop-arg-test.true
    c.arg-item.is)
    (then c.loop-arg.invariant (rw (c.expr.ensures, c.in_ok-add_one.was) at c.add_one.ensures))
