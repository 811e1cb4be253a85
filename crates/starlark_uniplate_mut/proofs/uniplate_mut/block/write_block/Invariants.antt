use Rattle.std.proofs.Common.{◌<◌, [], ◌∷◌, length, get_or}
use Rattle.starlark_tree.specs.Views.{statement_of}
use Rattle.starlark_tree.specs.Walks.{MayWriteBy}
use Rattle.starlark_uniplate_mut.proofs.WriteLoops.{WrittenTo}
use Rattle.starlark_uniplate_mut.proofs.uniplate_mut.block.write_block.Given as goal

-- the next statement may be visited, so that search finds what its visit requires
abbrev pub invariant-loop-part : goal.invariant-loop-part
invariant-loop-part g l = record {
  to : WrittenTo (λ x. statement_of x ∷ []) (λ x. tt {0}) g.G.AtStmtMut.calls l.part-index l.fn.state l.initial.part-items l.part-items l.state;
  next : (d : _) → l.part-index < length l.initial.part-items → MayWriteBy g.G.AtStmtMut.calls l.state (statement_of (get_or l.part-items l.part-index d) ∷ []);
}
