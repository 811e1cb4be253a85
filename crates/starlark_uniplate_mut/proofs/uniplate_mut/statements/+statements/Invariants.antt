use Rattle.std.proofs.Common.{◌<◌, length, get_or}
use Rattle.starlark_tree.specs.Views.{statement_of}
use Rattle.starlark_tree.specs.Walks.{MayWriteBy}
use Rattle.starlark_uniplate_mut.specs.Forms.{forms_of, nesting}
use Rattle.starlark_uniplate_mut.proofs.WriteLoops.{WrittenTo}
use Rattle.starlark_uniplate_mut.proofs.Nested.{size_block, size_of, size_both, size_later}
use Rattle.starlark_uniplate_mut.proofs.uniplate_mut.statements.+statements.Given as goal

abbrev pub decreases-write_block : goal.decreases-write_block
decreases-write_block g l = size_block l.parts.now

abbrev pub decreases-write_both : goal.decreases-write_both
decreases-write_both g l = size_both l.first.now l.second.now

abbrev pub decreases-write_later : goal.decreases-write_later
decreases-write_later g l = size_later l.stmt.now

abbrev pub decreases-write_statement : goal.decreases-write_statement
decreases-write_statement g l = size_of l.stmt.now

-- the next statement may be visited, and has fewer statements in it, so that search finds what its visit requires
abbrev pub invariant-write_block-loop-part : goal.invariant-write_block-loop-part
invariant-write_block-loop-part g l = record {
  to : WrittenTo (λ x. forms_of x.node) (λ x. nesting (statement_of x)) g.G.AtOwnMut.calls l.part-index l.fn.state l.initial.part-items l.part-items l.state;
  next : (d : _) → l.part-index < length l.initial.part-items
      → MayWriteBy g.G.AtOwnMut.calls l.state (forms_of (get_or l.part-items l.part-index d).node);
  falls : (d : _) → l.part-index < length l.initial.part-items
      → size_of (get_or l.part-items l.part-index d).node < size_block l.fn.parts;
}
