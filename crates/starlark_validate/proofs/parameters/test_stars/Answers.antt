use Rattle.starlark_tree.specs.Views.{parameter_of}
use Rattle.starlark_validate.specs.Validity.{star_faults}
use Rattle.starlark_validate.proofs.ItemTests.{each_more, each_stops, each_done}
use Rattle.starlark_validate.proofs.TestSequences.{nothing, same_err}
use Rattle.starlark_validate.proofs.parameters.test_stars.Goals as goal

pub loop-param-init : goal.loop-param-init
loop-param-init c = nothing

pub returns-in_err-test_star : goal.returns-in_err-test_star
returns-in_err-test_star c =
    rw (same_err c.from_residual.result c.in_err-test_star.field-0.0 c.from_residual.ensures.1)
    (each_stops (star_faults c.args.tests.now.dialect) parameter_of c.args.params.now c.loop-param.param-index c.param-item.result c.loop-param.invariant
    c.loop-param-test.true c.param-item.is (rw c.in_err-test_star.was at c.test_star.ensures))

pub loop-param-preserved : goal.loop-param-preserved
loop-param-preserved c =
    each_more (star_faults c.args.tests.now.dialect) parameter_of c.args.params.now c.loop-param.param-index c.param-item.result c.loop-param.invariant
    c.loop-param-test.true c.param-item.is (rw c.in_ok-test_star.was at c.test_star.ensures)

pub returns : goal.returns
returns c = each_done (star_faults c.args.tests.now.dialect) parameter_of c.args.params.now c.loop-param.param-index c.loop-param.invariant
    c.loop-param-test.false
