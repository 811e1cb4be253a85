use Rattle.std.proofs.Common.{◌∷◌, []}
use Rattle.starlark_tree.specs.Views.{expression_of}
use Rattle.starlark_uniplate.proofs.Calls.{WalkedTo}
use Rattle.starlark_uniplate.proofs.uniplate.expression.walk_pairs.Given as goal

abbrev pub invariant-loop-pair : goal.invariant-loop-pair
invariant-loop-pair g l = WalkedTo g.G.AtExpr.calls (λ p. expression_of p.0 ∷ expression_of p.1 ∷ []) l.pair-index l.fn.state l.pairs l.state
