use Rattle.std.proofs.Common.{[], ◌∷◌}
use Rattle.starlark_tree.specs.Views.{expression_of}
use Rattle.starlark_uniplate_mut.proofs.WriteLoops.{WrittenTo}
use Rattle.starlark_uniplate_mut.proofs.uniplate_mut.expression.write_pairs.Given as goal

abbrev pub invariant-loop-pair : goal.invariant-loop-pair
invariant-loop-pair g l = WrittenTo (λ p. expression_of p.0 ∷ expression_of p.1 ∷ []) (λ p. tt {0}) g.G.AtExprMut.calls l.pair-index l.fn.state l.fn.pairs
    l.pairs l.state
