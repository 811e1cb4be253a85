use Rattle.starlark_tree.specs.Views.{expression_of}
use Rattle.starlark_uniplate_mut.proofs.Spots.{SpotsTo}
use Rattle.starlark_uniplate_mut.proofs.uniplate_mut.one.write_each.Given as goal

abbrev pub invariant-loop-item : goal.invariant-loop-item
invariant-loop-item g l = SpotsTo expression_of (λ x. tt {0}) g.G.AtExprMut.calls l.item-index l.fn.state l.fn.items l.items l.state
