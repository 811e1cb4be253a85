use Rattle.std.proofs.Common.{map, take, Ok}
use Rattle.std.specs.List.{flat_map}
use Rattle.starlark_tree.specs.Views.{parameter_of}
use Rattle.starlark_validate.specs.Validity.{slash_faults}
use Rattle.starlark_validate.specs.TestResults.{Tested}
use Rattle.starlark_validate.proofs.parameters.test_slashes.Given as goal

abbrev pub invariant-loop-param : goal.invariant-loop-param
invariant-loop-param l = Tested l.fn.tests.codemap.now (flat_map (slash_faults l.fn.tests.dialect) (map parameter_of (take l.param-index l.params))) (Ok tt)
