use Rattle.std.proofs.Common.{◌≡◌, None, map, take}
use Rattle.starlark_tree.specs.Views.{argument_of}
use Rattle.starlark_checks.specs.Calls.{call_fault}
use Rattle.starlark_validate.proofs.clean.arguments.are_in_order.Given as goal

abbrev pub invariant-loop-at : goal.invariant-loop-at
invariant-loop-at l = call_fault (map argument_of (take l.at l.args)) ≡ None
