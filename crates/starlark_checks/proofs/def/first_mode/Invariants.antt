use Rattle.std.proofs.Common.{◌≡◌, false, map, take}
use Rattle.std.specs.List.{list_any}
use Rattle.starlark_tree.specs.Views.{parameter_of}
use Rattle.starlark_checks.specs.Parameters.{is_slash}
use Rattle.starlark_checks.proofs.def.first_mode.Given as goal

abbrev pub invariant-loop-param : goal.invariant-loop-param
invariant-loop-param g l = list_any is_slash (map parameter_of (take l.param-index l.params)) ≡ false
