use Rattle.starlark_depth.proofs.Uncounted.{CountedTo}
use Rattle.starlark_depth.proofs.depth.count_all.Given as goal

abbrev pub invariant-loop-kind : goal.invariant-loop-kind
invariant-loop-kind l = CountedTo l.limit l.kinds l.kind-index l.fn.nesting l.nesting
