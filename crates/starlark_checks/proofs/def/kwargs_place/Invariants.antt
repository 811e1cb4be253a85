use Rattle.std.proofs.Common.{◌≡◌, map, drop}
use Rattle.std.specs.List.{position_from}
use Rattle.starlark_checks.specs.Parameters.{named_of, takes_kwargs}
use Rattle.starlark_checks.proofs.def.kwargs_place.Given as goal

abbrev pub invariant-loop-param : goal.invariant-loop-param
invariant-loop-param g l = record {
  counted : l.place ≡ l.param-index;
  found : position_from takes_kwargs l.place (map named_of (drop l.param-index l.params)) ≡ position_from takes_kwargs 0 (map named_of l.params);
}
