use Rattle.std.proofs.Common.{take}
use Rattle.std.specs.List.{AllByRecursion}
use Rattle.starlark_spec.specs.Nodes.{IsMember}
use Rattle.starlark_diagnostics.proofs.things.has_all.Given as goal

abbrev pub invariant-loop-kind : goal.invariant-loop-kind
invariant-loop-kind l = AllByRecursion (λ kind. IsMember kind l.set.kinds.items) (take l.kind-index l.kinds)
