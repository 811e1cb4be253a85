use Rattle.std.proofs.Common.{◌≡◌, ℕ, List, [], None, map, take, bytes_eq, Bor}
use Rattle.std.specs.List.{list_any}
use Rattle.std.specs.HashSet.{contains}
use Rattle.starlark_tree.specs.Views.{argument_of}
use Rattle.starlark_checks.specs.Calls as calls
use Rattle.starlark_checks.specs.Faults.{first_fault}
use Rattle.starlark_checks.proofs.call.repeated_name.Given as goal

abbrev pub invariant-loop-argument : goal.invariant-loop-argument
invariant-loop-argument g l = record {
  known : (name : Bor (List ℕ)) → contains (λ x y. bytes_eq x.now y.now) l.names name ≡ list_any (calls.has_name name.now)
      (map argument_of (take l.argument-index l.args));
  none : first_fault calls.repeated [] (map argument_of (take l.argument-index l.args)) ≡ None;
}
