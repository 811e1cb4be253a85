use Rattle.std.proofs.Common.{map, option_to_list, ◌++◌}
use Rattle.std.specs.List.{flat_map}
use Rattle.starlark_tree.specs.Views.{parameter_of}
use Rattle.starlark_checks.specs.Parameters.{params_fault}
use Rattle.starlark_validate.specs.Validity.{slash_faults}
use Rattle.starlark_validate.proofs.TestSequences.{then, stops, same_err}
use Rattle.starlark_validate.proofs.parameters.test_parameters.Goals as goal

pub returns-in_err-test_stars : goal.returns-in_err-test_stars
returns-in_err-test_stars c =
    rw (same_err c.from_residual.result c.in_err-test_stars.field-0.0 c.from_residual.ensures.1)
    (stops (flat_map (slash_faults c.args.tests.now.dialect) (map parameter_of c.args.params.now)
    ++ option_to_list (params_fault (map parameter_of c.args.params.now))) (rw c.in_err-test_stars.was at c.test_stars.ensures))

pub returns-in_err-test_slashes : goal.returns-in_err-test_slashes
returns-in_err-test_slashes c =
    rw (same_err c.from_residual-in_err-test_slashes.result c.in_err-test_slashes.field-0.0 c.from_residual-in_err-test_slashes.ensures.1)
    (then (rw c.in_ok-test_stars.was at c.test_stars.ensures) (stops (option_to_list (params_fault (map parameter_of c.args.params.now)))
    (rw c.in_err-test_slashes.was at c.test_slashes.ensures)))

pub returns : goal.returns
returns c = then (rw c.in_ok-test_stars.was at c.test_stars.ensures) (then (rw c.in_ok-test_slashes.was at c.test_slashes.ensures) c.test_order.ensures)
