use Rattle.starlark_tree.specs.Places.{exprs_in_parameter}
use Rattle.starlark_uniplate.proofs.Calls.{WalkedTo}
use Rattle.starlark_uniplate.proofs.uniplate.parameter.walk_parameters.Given as goal

abbrev pub invariant-loop-parameter : goal.invariant-loop-parameter
invariant-loop-parameter g l = WalkedTo g.G.AtExpr.calls (λ p. exprs_in_parameter p.node) l.parameter-index l.fn.state l.parameters l.state
