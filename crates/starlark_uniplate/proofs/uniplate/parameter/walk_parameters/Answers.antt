use Rattle.starlark_uniplate.proofs.Turns.{item_ends, item_kept, items_done}
use Rattle.starlark_uniplate.proofs.uniplate.parameter.walk_parameters.Goals as goal

pub returns-in_err-walk_parameter : goal.returns-in_err-walk_parameter
returns-in_err-walk_parameter g c =
    item_ends c.loop-parameter.invariant c.parameter-item.result c.loop-parameter-test.true c.parameter-item.is c.in_err-walk_parameter.was
    c.from_residual.ensures.1
    c.walk_parameter.ensures

pub loop-parameter-preserved : goal.loop-parameter-preserved
loop-parameter-preserved g c =
    item_kept c.loop-parameter.invariant c.parameter-item.result c.loop-parameter-test.true c.parameter-item.is c.in_ok-walk_parameter.was
    c.walk_parameter.ensures

pub returns : goal.returns
returns g c = items_done c.loop-parameter.invariant c.loop-parameter-test.false
