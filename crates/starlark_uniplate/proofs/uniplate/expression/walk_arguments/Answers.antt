use Rattle.starlark_uniplate.proofs.Turns.{place_ends, place_kept, places_done}
use Rattle.starlark_uniplate.proofs.uniplate.expression.walk_arguments.Goals as goal

pub returns-in_err-walk_one : goal.returns-in_err-walk_one
returns-in_err-walk_one g c =
    place_ends c.loop-argument.invariant c.argument-item.result c.loop-argument-test.true c.argument-item.is c.in_err-walk_one.was
    c.from_residual.ensures.1
    (rw c.expr.ensures at c.walk_one.ensures)

pub loop-argument-preserved : goal.loop-argument-preserved
loop-argument-preserved g c =
    place_kept c.loop-argument.invariant c.argument-item.result c.loop-argument-test.true c.argument-item.is c.in_ok-walk_one.was
    (rw c.expr.ensures at c.walk_one.ensures)

pub returns : goal.returns
returns g c = places_done c.loop-argument.invariant c.loop-argument-test.false
