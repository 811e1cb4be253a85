use Rattle.std.proofs.Common.{map}
use Rattle.starlark_tree.specs.Views.{parameter_of}
use Rattle.starlark_validate.specs.Validity.{params_faults}
use Rattle.starlark_validate.proofs.TestSequences.{then, stops, same_err}
use Rattle.starlark_validate.proofs.expressions.test_lambda.Goals as goal

pub returns-in_err-refuse_left_out : goal.returns-in_err-refuse_left_out
returns-in_err-refuse_left_out c =
    rw (same_err c.from_residual.result c.in_err-refuse_left_out.field-0.0 c.from_residual.ensures.1)
    (stops (params_faults c.args.tests.now.dialect (map parameter_of c.args.params.now)) (rw c.in_err-refuse_left_out.was at c.refuse_left_out.ensures))

pub returns : goal.returns
returns c = then (rw c.in_ok-refuse_left_out.was at c.refuse_left_out.ensures) c.test_parameters.ensures
