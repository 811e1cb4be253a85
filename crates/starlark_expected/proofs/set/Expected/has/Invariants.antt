use Rattle.std.proofs.Common.{drop}
use Rattle.starlark_spec.specs.Nodes.{IsMember}
use Rattle.starlark_expected.proofs.set.Expected.has.Given as goal

abbrev pub invariant-loop-other : goal.invariant-loop-other
invariant-loop-other l = IsMember l.kind l.self.kinds.items → IsMember l.kind (drop l.other-index l.self.kinds.items)
