use Rattle.starlark_lexer.specs.Tokens.{span_of}
use Rattle.starlark_tree.specs.Clones.{cloning}
use Rattle.starlark_tree.specs.declared.ast.StmtP
use Rattle.starlark_tree.proofs.Clones.{statements_cloned}
use Rattle.starlark_tree.proofs.Copies.{beside, first_alike, second_alike, follows, if_else_cloned, item_smaller, of_one_part}
use Rattle.starlark_tree.proofs.Copies.{one_more_alike, whole}
use Rattle.starlark_tree.proofs.clone.stmt.+copy.Goals as goal

pub clone_branches-returns-clause-first : goal.clone_branches-returns-clause-first
clone_branches-returns-clause-first g t c =
    first_alike _ _ _ _ c.pair_like.ensures.first c.pair_like.ensures.first_span (rw c.deref.ensures at c.clone_stmt.ensures)

pub clone_branches-returns-clause-second : goal.clone_branches-returns-clause-second
clone_branches-returns-clause-second g t c =
    second_alike _ _ _ _ c.pair_like.ensures.second c.pair_like.ensures.second_span (rw c.deref-2.ensures at c.clone_stmt-2.ensures)

pub clone_stmt-returns-in-Statements : goal.clone_stmt-returns-in-Statements
clone_stmt-returns-in-Statements g t c =
    rw c.in-Statements.is (of_one_part _ _ StmtP.Statements _ _ c.statements.ensures c.clone_stmts.ensures (λ x h. statements_cloned
    (cloning g.P.LoadPayload.Clone.is_clone g.P.IdentPayload.Clone.is_clone g.P.IdentAssignPayload.Clone.is_clone
    g.P.DefPayload.Clone.is_clone g.P.TypeExprPayload.Clone.is_clone) _ _ h))

pub clone_stmt-returns-in-If : goal.clone_stmt-returns-in-If
clone_stmt-returns-in-If g t c =
    rw c.in-If.is (follows _ _ c.clone_block.result _ (rw c.in-If.is at c.with_body.ensures) c.clone_block.ensures)

pub clone_stmt-returns-in-IfElse : goal.clone_stmt-returns-in-IfElse
clone_stmt-returns-in-IfElse g t c =
    let R = cloning g.P.LoadPayload.Clone.is_clone g.P.IdentPayload.Clone.is_clone g.P.IdentAssignPayload.Clone.is_clone g.P.DefPayload.Clone.is_clone
    g.P.TypeExprPayload.Clone.is_clone in
    if_else_cloned R c.args.stmt.now _ _ c.clone_branches.result _ c.in-IfElse.is c.if_else_like.ensures c.clone_branches.ensures.first
    c.clone_branches.ensures.second

pub clone_stmt-returns-in-For : goal.clone_stmt-returns-in-For
clone_stmt-returns-in-For g t c =
    rw c.in-For.is (follows _ _ c.clone_block-in-For.result _ (rw c.in-For.is at c.with_body-in-For.ensures) c.clone_block-in-For.ensures)

pub clone_stmt-returns-in-Def : goal.clone_stmt-returns-in-Def
clone_stmt-returns-in-Def g t c =
    rw c.in-Def.is (follows _ _ c.clone_block-in-Def.result _ (rw c.in-Def.is at c.with_body-in-Def.ensures) c.clone_block-in-Def.ensures)

pub clone_stmts-clone_stmt-requires : goal.clone_stmts-clone_stmt-requires
clone_stmts-clone_stmt-requires g t c κs within = (
  item_smaller _ c.deref-item-items.result.now c.args.items.now.items c.loop-item.item-index c.item-item.result t c.loop-item-test.true c.item-item.is
      c.deref-item-items.ensures.value c.decreases,
  within,
)

pub clone_stmts-loop-item-preserved : goal.clone_stmts-loop-item-preserved
clone_stmts-loop-item-preserved g t c =
    one_more_alike _ c.deref-item-items.result.now c.loop-item.copies.items _ c.loop-item.item-index c.item-item.result c.clone_stmt.result
    c.loop-item-test.true c.item-item.is c.loop-item.invariant c.in_ok-copies-2.ensures
    (beside _ (span_of c.item-item.result.span) c.clone_stmt.result c.clone_stmt.ensures)

pub clone_stmts-returns : goal.clone_stmts-returns
clone_stmts-returns g t c =
    whole _ c.deref-item-items.result.now _ _ c.loop-item.item-index c.loop-item-test.false c.deref-item-items.ensures.value c.loop-item.invariant
