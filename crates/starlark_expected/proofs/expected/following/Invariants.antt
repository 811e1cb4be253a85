use Rattle.std.proofs.Common.{take, reverse}
use Rattle.starlark_expected.specs.Words.{outcome}
use Rattle.starlark_expected.specs.MayFollow.{IsTook, Chosen}
use Rattle.starlark_expected.proofs.expected.following.Given as goal

abbrev pub invariant-loop-kind : goal.invariant-loop-kind
invariant-loop-kind l = Chosen (λ kind. IsTook (outcome (reverse l.due.words.items) l.due.named kind)) (take l.kind-index l.all) l.kinds.items
