use Rattle.std.proofs.Common.{◌≡◌, ◌++◌, map, take, drop}
use Rattle.starlark_tree.specs.Views.{parameter_of}
use Rattle.starlark_checks.specs.Parameters as parameters
use Rattle.starlark_checks.proofs.def.named.Given as goal

abbrev pub invariant-loop-param : goal.invariant-loop-param
invariant-loop-param g l = record {
  passed : l.mode ≡ parameters.mode (map parameter_of (take l.param-index l.params)) (map parameter_of (drop l.param-index l.params));
  joined : map parameters.named_of l.named.items ++ parameters.named_after (map parameter_of (take l.param-index l.params))
      (map parameter_of (drop l.param-index l.params)) ≡ parameters.named (map parameter_of l.params);
}
