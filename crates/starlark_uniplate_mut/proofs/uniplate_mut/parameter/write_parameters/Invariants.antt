use Rattle.starlark_uniplate_mut.specs.Frames.{parameter_frame}
use Rattle.starlark_tree.specs.Places.{exprs_in_parameter}
use Rattle.starlark_tree.specs.Views.{parameter_of}
use Rattle.starlark_uniplate_mut.proofs.WriteLoops.{WrittenTo}
use Rattle.starlark_uniplate_mut.proofs.uniplate_mut.parameter.write_parameters.Given as goal

abbrev pub invariant-loop-parameter : goal.invariant-loop-parameter
invariant-loop-parameter g l = WrittenTo (λ p. exprs_in_parameter p.node) (λ p. parameter_frame (parameter_of p)) g.G.AtExprMut.calls l.parameter-index
    l.fn.state l.fn.parameters l.parameters l.state
