use Rattle.std.proofs.Common.{rules}
use Rattle.starlark_lexer.specs.Tokens.{span_of}
use Rattle.starlark_compact.proofs.AddsLemmas.{next}
use Rattle.starlark_compact.proofs.Statements.{assign_modify_bytes, block_bytes, break_bytes, continue_bytes, def_bytes, evaluate_bytes}
use Rattle.starlark_compact.proofs.Statements.{for_each_bytes, if_else_bytes, if_then_bytes, pass_bytes}
use Rattle.starlark_compact.proofs.statement.+write.Goals as goal

pub write_stmt-returns-in-Break : goal.write_stmt-returns-in-Break
write_stmt-returns-in-Break t c = rw (break_bytes c.args.statement.now (span_of c.args.span) c.in-Break.is) c.write_node.ensures

pub write_stmt-returns-in-Continue : goal.write_stmt-returns-in-Continue
write_stmt-returns-in-Continue t c = rw (continue_bytes c.args.statement.now (span_of c.args.span) c.in-Continue.is) c.write_node-in-Continue.ensures

pub write_stmt-returns-in-Pass : goal.write_stmt-returns-in-Pass
write_stmt-returns-in-Pass t c = rw (pass_bytes c.args.statement.now (span_of c.args.span) c.in-Pass.is) c.write_node-in-Pass.ensures

pub write_stmt-returns-in_ok-write_expression-in-Expression : goal.write_stmt-returns-in_ok-write_expression-in-Expression
write_stmt-returns-in_ok-write_expression-in-Expression t c = rw (c.in-Expression.is, evaluate_bytes c.in-Expression.value (span_of c.args.span))
    (next c.in_ok-write_expression-in-Expression.ensures c.write_node-in-Expression.ensures)

pub write_stmt-returns-in-AssignModify : goal.write_stmt-returns-in-AssignModify
write_stmt-returns-in-AssignModify t c = rw (
  c.in-AssignModify.is,
  assign_modify_bytes c.in-AssignModify.target c.in-AssignModify.operator c.in-AssignModify.value (span_of c.args.span),
)
    (rw c.deref.ensures at c.write_assign_modify.ensures)

pub write_stmt-returns-in-Statements : goal.write_stmt-returns-in-Statements
write_stmt-returns-in-Statements t c = rw (c.in-Statements.is, block_bytes c.in-Statements.parts (span_of c.args.span))
    (rw c.deref-in-Statements.ensures.value at c.write_block.ensures)

pub write_stmt-returns-in_ok-write_stmt-in-If : goal.write_stmt-returns-in_ok-write_stmt-in-If
write_stmt-returns-in_ok-write_stmt-in-If t c = rw (c.in-If.is, if_then_bytes c.in-If.condition c.in-If.body (span_of c.args.span))
    (next c.in_ok-write_expression-in-If.ensures
    (next (rw (c.deref-in-If.ensures, c.deref-in-If-2.ensures) at c.in_ok-write_stmt-in-If.ensures) c.write_node-in-If.ensures))

pub write_stmt-returns-in_ok-write_stmt-in-IfElse-2 : goal.write_stmt-returns-in_ok-write_stmt-in-IfElse-2
write_stmt-returns-in_ok-write_stmt-in-IfElse-2 t c = rw (c.in-IfElse.is, if_else_bytes c.in-IfElse.condition c.in-IfElse.blocks (span_of c.args.span))
    (next c.in_ok-write_expression-in-IfElse.ensures
    (next (rw (c.deref-in-IfElse.ensures, c.deref-in-IfElse-2.ensures) at c.in_ok-write_stmt-in-IfElse.ensures)
    (next (rw (c.deref-in-IfElse-3.ensures, c.deref-in-IfElse-4.ensures) at c.in_ok-write_stmt-in-IfElse-2.ensures) c.write_node-in-IfElse.ensures)))

pub write_for-returns : goal.write_for-returns
write_for-returns t c = rw (for_each_bytes c.args.each.now (span_of c.args.span))
    (next c.in_ok-write_target.ensures (next c.in_ok-write_expression.ensures
    (next (rw (c.deref.ensures, c.deref-2.ensures) at c.in_ok-write_stmt.ensures) c.write_node.ensures)))

pub write_def-returns : goal.write_def-returns
write_def-returns t c = rw (def_bytes c.args.def.now (span_of c.args.span))
    (next (rw c.deref.ensures.value at c.in_ok-write_parameters.ensures) (next c.in_ok-write_maybe_type.ensures
    (next (rw (c.deref-2.ensures, c.deref-3.ensures) at c.in_ok-write_stmt.ensures)
    (next (rw c.as_str.ensures.value at c.in_ok-write_named.ensures) (search rules)))))
