use Rattle.std.proofs.Common.{◌<◌, ◌+◌, ◌*◌, length, get_or}
use Rattle.starlark_tree.specs.declared.ast.AssignTargetP
use Rattle.starlark_uniplate_mut.specs.Frames.{unnamed}
use Rattle.starlark_tree.specs.Names.{lvalues_of}
use Rattle.starlark_tree.specs.Views.{target_of}
use Rattle.starlark_tree.specs.Walks.{MayWriteBy}
use Rattle.starlark_uniplate_mut.proofs.WriteLoops.{WrittenTo}
use Rattle.starlark_uniplate_mut.proofs.WrittenTargets.{tuples_of_target}
use Rattle.starlark_uniplate_mut.proofs.uniplate_mut.lvalue.+lvalue.Given as goal

abbrev pub decreases-write_part_names : goal.decreases-write_part_names
decreases-write_part_names g l = 2 * length (tuples_of_target (AssignTargetP.Tuple l.parts.now))

abbrev pub decreases-write_lvalues : goal.decreases-write_lvalues
decreases-write_lvalues g l = 2 * length (tuples_of_target l.target.now) + 1

-- the next part may be visited, and has fewer tuples, so that search finds what its visit requires
abbrev pub invariant-write_part_names-loop-part : goal.invariant-write_part_names-loop-part
invariant-write_part_names-loop-part g l = record {
  to : WrittenTo (λ x. lvalues_of x.node) (λ x. unnamed (target_of x)) g.G.AtNameMut.calls l.part-index l.fn.state l.initial.part-items l.part-items l.state;
  next : (d : _) → l.part-index < length l.initial.part-items → MayWriteBy g.G.AtNameMut.calls l.state (lvalues_of (get_or l.part-items l.part-index d).node);
  falls : (d : _) → l.part-index < length l.initial.part-items
      → length (tuples_of_target (get_or l.part-items l.part-index d).node) < length (tuples_of_target (AssignTargetP.Tuple l.fn.parts));
}
