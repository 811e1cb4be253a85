use Rattle.std.proofs.Common.{◌≡◌, map, drop}
use Rattle.starlark_tree.specs.Views.{parameter_of}
use Rattle.starlark_checks.specs.Parameters.{star_fault}
use Rattle.starlark_checks.proofs.def.star_fault.Given as goal

abbrev pub invariant-loop-i : goal.invariant-loop-i
invariant-loop-i g l = star_fault (map parameter_of (drop l.i l.params)) ≡ star_fault (map parameter_of l.params)
