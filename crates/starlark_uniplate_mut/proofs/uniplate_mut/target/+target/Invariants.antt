use Rattle.std.proofs.Common.{◌<◌, ◌+◌, ◌*◌, length, get_or}
use Rattle.starlark_tree.specs.declared.ast.AssignTargetP
use Rattle.starlark_uniplate_mut.specs.Frames.{target_frame}
use Rattle.starlark_tree.specs.Places.{exprs_in_target}
use Rattle.starlark_tree.specs.Views.{target_of}
use Rattle.starlark_tree.specs.Walks.{MayWriteBy}
use Rattle.starlark_uniplate_mut.proofs.WriteLoops.{WrittenTo}
use Rattle.starlark_uniplate_mut.proofs.WrittenTargets.{tuples_of_target}
use Rattle.starlark_uniplate_mut.proofs.uniplate_mut.target.+target.Given as goal

abbrev pub decreases-write_parts : goal.decreases-write_parts
decreases-write_parts g l = 2 * length (tuples_of_target (AssignTargetP.Tuple l.parts.now))

abbrev pub decreases-write_target : goal.decreases-write_target
decreases-write_target g l = 2 * length (tuples_of_target l.target.now) + 1

-- the next part may be visited, and has fewer tuples, so that search finds what its visit requires
abbrev pub invariant-write_parts-loop-part : goal.invariant-write_parts-loop-part
invariant-write_parts-loop-part g l = record {
  to : WrittenTo (λ x. exprs_in_target x.node) (λ x. target_frame (target_of x)) g.G.AtExprMut.calls l.part-index l.fn.state l.initial.part-items l.part-items
      l.state;
  next : (d : _) → l.part-index < length l.initial.part-items
      → MayWriteBy g.G.AtExprMut.calls l.state (exprs_in_target (get_or l.part-items l.part-index d).node);
  falls : (d : _) → l.part-index < length l.initial.part-items
      → length (tuples_of_target (get_or l.part-items l.part-index d).node) < length (tuples_of_target (AssignTargetP.Tuple l.fn.parts));
}
