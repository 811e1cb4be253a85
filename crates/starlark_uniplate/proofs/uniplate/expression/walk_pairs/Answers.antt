use Rattle.starlark_uniplate.proofs.Turns.{item_ends, item_kept, items_done}
use Rattle.starlark_uniplate.proofs.uniplate.expression.walk_pairs.Goals as goal

pub returns-in_err-walk_two : goal.returns-in_err-walk_two
returns-in_err-walk_two g c =
    item_ends c.loop-pair.invariant c.pair-item.result c.loop-pair-test.true c.pair-item.is c.in_err-walk_two.was c.from_residual.ensures.1
    c.walk_two.ensures

pub loop-pair-preserved : goal.loop-pair-preserved
loop-pair-preserved g c = item_kept c.loop-pair.invariant c.pair-item.result c.loop-pair-test.true c.pair-item.is c.in_ok-walk_two.was c.walk_two.ensures

pub returns : goal.returns
returns g c = items_done c.loop-pair.invariant c.loop-pair-test.false
