use Rattle.std.proofs.Common.{◌≡◌, ℕ, List, [], None, map, take, bytes_eq, Bor}
use Rattle.std.specs.List.{list_any}
use Rattle.std.specs.HashSet.{contains}
use Rattle.starlark_tree.specs.Views.{parameter_of}
use Rattle.starlark_checks.specs.Faults.{first_fault}
use Rattle.starlark_checks.specs.Parameters as parameters
use Rattle.starlark_checks.specs.Walks.Parameters as walks
use Rattle.starlark_checks.proofs.def.entry_fault.Given as goal

abbrev pub invariant-loop-param : goal.invariant-loop-param
invariant-loop-param g l = record {
  known : (name : Bor (List ℕ)) → contains (λ x y. bytes_eq x.now y.now) l.names name ≡ list_any (parameters.has_name name.now)
      (map parameter_of (take l.param-index l.params));
  before : l.before ≡ walks.among (map parameter_of (take l.param-index l.params));
  none : first_fault parameters.entry_fault [] (map parameter_of (take l.param-index l.params)) ≡ None;
}
