use Rattle.std.proofs.Common.{[], ◌∷◌, refl}
use Rattle.starlark_tree.specs.Views.{expression_of}
use Rattle.starlark_tree.proofs.Steps.{same_err}
use Rattle.starlark_uniplate_mut.proofs.WriteLoops.{all_written, item_more, item_stops}
use Rattle.starlark_uniplate_mut.proofs.uniplate_mut.expression.write_pairs.Goals as goal

pub returns-in_err-write_pair : goal.returns-in_err-write_pair
returns-in_err-write_pair g c =
    rw (same_err c.from_residual.result c.in_err-write_pair.field-0.0 c.from_residual.ensures.1)
    ((item_stops (λ p. expression_of p.0 ∷ expression_of p.1 ∷ []) (λ p. tt {0}) g.G.AtExprMut.calls c.args.pairs.now c.loop-pair.pairs c.loop-pair.pair-index
    c.pair-item.result refl c.loop-pair-test.true c.loop-pair.invariant (record {
      calls = (rw c.in_err-write_pair.was at c.write_pair.ensures);
      rest = refl;
    })).calls)

pub loop-pair-preserved : goal.loop-pair-preserved
loop-pair-preserved g c = item_more (λ p. expression_of p.0 ∷ expression_of p.1 ∷ []) (λ p. tt {0}) g.G.AtExprMut.calls c.args.pairs.now c.loop-pair.pairs
    c.loop-pair.pair-index c.pair-item.result refl c.loop-pair-test.true c.loop-pair.invariant
    (record { calls = (rw c.in_ok-write_pair.was at c.write_pair.ensures); rest = refl })

pub returns : goal.returns
returns g c = (all_written c.loop-pair.pair-index c.loop-pair-test.false c.loop-pair.invariant).calls
