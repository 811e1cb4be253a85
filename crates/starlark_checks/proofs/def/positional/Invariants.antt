use Rattle.std.proofs.Common.{◌≡◌, ◌+◌, ◌≤◌, map, drop}
use Rattle.starlark_tree.specs.Views.{parameter_of}
use Rattle.starlark_checks.specs.Parameters as parameters
use Rattle.starlark_checks.proofs.def.positional.Given as goal

abbrev pub invariant-loop-param : goal.invariant-loop-param
invariant-loop-param g l = record {
  within : l.count ≤ l.param-index;
  counted : l.count + parameters.positional (map parameter_of (drop l.param-index l.params)) ≡ parameters.positional (map parameter_of l.params);
}
