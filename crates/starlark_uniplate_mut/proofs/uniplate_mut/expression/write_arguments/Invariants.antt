use Rattle.starlark_uniplate_mut.specs.Frames.{argument_frame}
use Rattle.starlark_tree.specs.Parts.{argument_expression}
use Rattle.starlark_tree.specs.Views.{argument_of, expression_of}
use Rattle.starlark_uniplate_mut.proofs.Spots.{SpotsTo}
use Rattle.starlark_uniplate_mut.proofs.uniplate_mut.expression.write_arguments.Given as goal

abbrev pub invariant-loop-argument : goal.invariant-loop-argument
invariant-loop-argument g l = SpotsTo (λ a. expression_of (argument_expression a.node)) (λ a. argument_frame (argument_of a)) g.G.AtExprMut.calls
    l.argument-index l.fn.state l.fn.arguments l.arguments l.state
