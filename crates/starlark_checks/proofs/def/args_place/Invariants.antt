use Rattle.std.proofs.Common.{◌≡◌, map, drop}
use Rattle.std.specs.List.{position_from}
use Rattle.starlark_checks.specs.Parameters.{named_of, takes_args}
use Rattle.starlark_checks.proofs.def.args_place.Given as goal

abbrev pub invariant-loop-param : goal.invariant-loop-param
invariant-loop-param g l = record {
  counted : l.place ≡ l.param-index;
  found : position_from takes_args l.place (map named_of (drop l.param-index l.params)) ≡ position_from takes_args 0 (map named_of l.params);
}
