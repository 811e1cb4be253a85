use Rattle.std.proofs.Common.{[], ◌∷◌, refl}
use Rattle.starlark_tree.specs.Views.{expression_of}
use Rattle.starlark_tree.proofs.Steps.{same_err}
use Rattle.starlark_uniplate_mut.proofs.WriteLoops.{all_written, calls_written, item_more, item_stops}
use Rattle.starlark_uniplate_mut.proofs.uniplate_mut.one.write_each.Goals as goal

pub returns-in_err-write_one : goal.returns-in_err-write_one
returns-in_err-write_one g c =
    rw (same_err c.from_residual.result c.in_err-write_one.field-0.0 c.from_residual.ensures.1)
    (calls_written expression_of (item_stops (λ x. expression_of x ∷ []) (λ x. tt {0}) g.G.AtExprMut.calls c.args.items.now c.loop-item.items
    c.loop-item.item-index c.item-item.result refl c.loop-item-test.true c.loop-item.invariant.to
    (record { calls = rw c.in_err-write_one.was at c.write_one.ensures; rest = refl })))

pub loop-item-preserved : goal.loop-item-preserved
loop-item-preserved g c =
    record {
      to = item_more (λ x. expression_of x ∷ []) (λ x. tt {0}) g.G.AtExprMut.calls c.args.items.now c.loop-item.items c.loop-item.item-index
          c.item-item.result refl c.loop-item-test.true c.loop-item.invariant.to (record {
            calls = rw c.in_ok-write_one.was at c.write_one.ensures;
            rest = refl;
          });
    }

pub returns : goal.returns
returns g c = calls_written expression_of (all_written c.loop-item.item-index c.loop-item-test.false c.loop-item.invariant.to)
