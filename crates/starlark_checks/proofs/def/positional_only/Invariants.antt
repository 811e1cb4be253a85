use Rattle.std.proofs.Common.{◌≡◌, map, drop}
use Rattle.std.specs.List.{position_from}
use Rattle.starlark_tree.specs.Views.{parameter_of}
use Rattle.starlark_checks.specs.Parameters.{is_slash}
use Rattle.starlark_checks.proofs.def.positional_only.Given as goal

abbrev pub invariant-loop-param : goal.invariant-loop-param
invariant-loop-param g l = record {
  counted : l.count ≡ l.param-index;
  found : position_from is_slash l.count (map parameter_of (drop l.param-index l.params)) ≡ position_from is_slash 0 (map parameter_of l.params);
}
