use Rattle.std.specs.List.{AllByRecursion}
use Rattle.starlark_diagnostics.specs.Stops.{IsIn}
use Rattle.starlark_diagnostics.proofs.things.add_tokens.Given as goal

abbrev pub invariant-loop-kind : goal.invariant-loop-kind
invariant-loop-kind l = AllByRecursion (IsIn l.set.kinds.items) l.things.items
