use Rattle.starlark_uniplate.proofs.Calls.{WalkedTo}
use Rattle.starlark_uniplate.specs.Types.{types_in_parameter}
use Rattle.starlark_uniplate.proofs.uniplate.types.walk_parameter_types.Given as goal

abbrev pub invariant-loop-parameter : goal.invariant-loop-parameter
invariant-loop-parameter g l = WalkedTo g.G.AtType.calls (λ p. types_in_parameter p.node) l.parameter-index l.fn.state l.parameters l.state
