use Rattle.std.proofs.Common.{◌≡◌, [], None, true, map, take}
use Rattle.std.specs.List.{list_all}
use Rattle.starlark_tree.specs.Views.{parameter_of}
use Rattle.starlark_checks.specs.Faults.{first_fault}
use Rattle.starlark_checks.specs.Parameters.{entry_fault, is_plain}
use Rattle.starlark_validate.proofs.clean.parameters.are_plain.Given as goal

abbrev pub invariant-loop-at : goal.invariant-loop-at
invariant-loop-at l =
    (list_all is_plain (map parameter_of (take l.at l.params)) ≡ true) × (first_fault entry_fault [] (map parameter_of (take l.at l.params)) ≡ None)
