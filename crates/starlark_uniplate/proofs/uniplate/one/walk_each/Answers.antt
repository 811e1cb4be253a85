use Rattle.starlark_uniplate.proofs.Turns.{place_ends, place_kept, places_done}
use Rattle.starlark_uniplate.proofs.uniplate.one.walk_each.Goals as goal

pub returns-in_err-walk_one : goal.returns-in_err-walk_one
returns-in_err-walk_one g c =
    place_ends c.loop-item.invariant c.item-item.result c.loop-item-test.true c.item-item.is c.in_err-walk_one.was c.from_residual.ensures.1
    c.walk_one.ensures

pub loop-item-preserved : goal.loop-item-preserved
loop-item-preserved g c = place_kept c.loop-item.invariant c.item-item.result c.loop-item-test.true c.item-item.is c.in_ok-walk_one.was c.walk_one.ensures

pub returns : goal.returns
returns g c = places_done c.loop-item.invariant c.loop-item-test.false
