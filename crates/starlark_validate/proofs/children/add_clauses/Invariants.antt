use Rattle.std.proofs.Common.{take, ◌++◌}
use Rattle.std.specs.List.{flat_map}
use Rattle.starlark_tree.specs.Places.{clause_exprs, for_exprs}
use Rattle.starlark_tree.specs.Views.{clause_seen, for_in_of}
use Rattle.starlark_validate.proofs.AddedExpressions.{SoFar}
use Rattle.starlark_validate.proofs.children.add_clauses.Given as goal

abbrev pub invariant-loop-clause : goal.invariant-loop-clause
invariant-loop-clause l = SoFar l.fn.found.items l.found.items (for_exprs (for_in_of l.first) ++ flat_map (λ k. clause_exprs (clause_seen k))
    (take l.clause-index l.others))
