use Rattle.std.proofs.Common.{◌+◌, map, take, Ok, refl, ap, sym, ◌∙◌}
use Rattle.std.proofs.lemmas.List.{take_all}
use Rattle.starlark_tree.specs.Views.{statement_of}
use Rattle.starlark_tree.specs.Walks.{WalkBy}
use Rattle.starlark_tree.proofs.Loops.{may_place, place_more, place_stops}
use Rattle.starlark_tree.proofs.Statements.{block_stmts}
use Rattle.starlark_tree.proofs.Steps.{same_err}
use Rattle.starlark_tree.proofs.WalkConversions.{may_at, walk_at}
use Rattle.starlark_uniplate.proofs.uniplate.block.walk_block.Goals as goal

pub loop-part-init : goal.loop-part-init
loop-part-init g c =
    let begun : WalkBy g.G.AtStmt.calls c.args.state.now (map statement_of (take 0 c.deref-part-items.result.now)) (Ok tt) c.args.state.now =
    record { calls = (refl, refl) } in
    record {
      walked = begun;
      next = λ x is within. may_place statement_of c.deref-part-items.result.now 0 x within is begun
          (may_at (block_stmts c.args.parts.now ∙ sym (ap (map statement_of) c.deref-part-items.ensures.value)) c.requires);
    }

pub returns-in_err-walk_stmt : goal.returns-in_err-walk_stmt
returns-in_err-walk_stmt g c =
    rw (same_err c.from_residual.result c.in_err-walk_stmt.field-0.0 c.from_residual.ensures.1)
    (walk_at (ap (map statement_of) c.deref-part-items.ensures.value ∙ sym (block_stmts c.args.parts.now))
    (place_stops statement_of c.deref-part-items.result.now c.loop-part.part-index c.part-item.result c.loop-part-test.true c.part-item.is
    c.loop-part.invariant.walked (rw c.in_err-walk_stmt.was at c.walk_stmt.ensures)))

pub loop-part-preserved : goal.loop-part-preserved
loop-part-preserved g c =
    let walked = place_more statement_of c.deref-part-items.result.now c.loop-part.part-index c.part-item.result c.loop-part-test.true c.part-item.is
    c.loop-part.invariant.walked (rw c.in_ok-walk_stmt.was at c.walk_stmt.ensures) in
    record {
      walked = walked;
      next = λ x is within. may_place statement_of c.deref-part-items.result.now (c.loop-part.part-index + 1) x within is walked
          (may_at (block_stmts c.args.parts.now ∙ sym (ap (map statement_of) c.deref-part-items.ensures.value)) c.requires);
    }

pub returns : goal.returns
returns g c =
    walk_at (ap (map statement_of) c.deref-part-items.ensures.value ∙ sym (block_stmts c.args.parts.now))
    (rw (take_all c.loop-part.part-index c.deref-part-items.result.now c.loop-part-test.false) at c.loop-part.invariant.walked)
