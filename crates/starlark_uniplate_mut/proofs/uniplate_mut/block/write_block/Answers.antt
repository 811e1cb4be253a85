use Rattle.std.proofs.Common.{[], ◌∷◌, map, refl, sym, ap, ◌∙◌}
use Rattle.starlark_tree.specs.Views.{statement_of}
use Rattle.starlark_tree.proofs.Statements.{block_stmts}
use Rattle.starlark_tree.proofs.Steps.{same_err}
use Rattle.starlark_tree.proofs.WalkConversions.{may_at}
use Rattle.starlark_uniplate_mut.proofs.WriteLoops.{all_written, calls_written, item_more, item_stops, may_item, may_places, none_written}
use Rattle.starlark_uniplate_mut.proofs.WriteStatements.{block_written}
use Rattle.starlark_uniplate_mut.proofs.uniplate_mut.block.write_block.Goals as goal

pub loop-part-init : goal.loop-part-init
loop-part-init g c =
    let may = may_places statement_of _ (may_at (block_stmts c.args.parts.now ∙ sym (ap (map statement_of) c.deref_mut-part-items.ensures.value)) c.requires) in
    record {
      to = none_written;
      next = λ d within. may_item (λ x. statement_of x ∷ []) (λ x. tt {0}) g.G.AtStmtMut.calls c.deref_mut-part-items.result.now _ 0 d refl within none_written
          may;
    }

pub returns-in_err-write_stmt : goal.returns-in_err-write_stmt
returns-in_err-write_stmt g c =
    rw (same_err c.from_residual.result c.in_err-write_stmt.field-0.0 c.from_residual.ensures.1)
    (block_written c.args.parts.now c.deref_mut-part-items.result.now _ c.deref_mut-part-items.ensures.value
    (calls_written statement_of (item_stops (λ x. statement_of x ∷ []) (λ x. tt {0}) g.G.AtStmtMut.calls c.deref_mut-part-items.result.now
    c.loop-part.part-items
    c.loop-part.part-index c.part-item.result refl c.loop-part-test.true c.loop-part.invariant.to
    (record { calls = rw c.in_err-write_stmt.was at c.write_stmt.ensures; rest = refl }))))

pub loop-part-preserved : goal.loop-part-preserved
loop-part-preserved g c =
    let may = may_places statement_of _ (may_at (block_stmts c.args.parts.now ∙ sym (ap (map statement_of) c.deref_mut-part-items.ensures.value)) c.requires) in
    let more = item_more (λ x. statement_of x ∷ []) (λ x. tt {0}) g.G.AtStmtMut.calls c.deref_mut-part-items.result.now c.loop-part.part-items
    c.loop-part.part-index c.part-item.result refl c.loop-part-test.true c.loop-part.invariant.to
    (record { calls = rw c.in_ok-write_stmt.was at c.write_stmt.ensures; rest = refl }) in
    record {
      to = more;
      next = λ d within. may_item (λ x. statement_of x ∷ []) (λ x. tt {0}) g.G.AtStmtMut.calls c.deref_mut-part-items.result.now _ _ d refl within more may;
    }

pub returns : goal.returns
returns g c =
    block_written c.args.parts.now c.deref_mut-part-items.result.now _ c.deref_mut-part-items.ensures.value
    (calls_written statement_of (all_written c.loop-part.part-index c.loop-part-test.false c.loop-part.invariant.to))
