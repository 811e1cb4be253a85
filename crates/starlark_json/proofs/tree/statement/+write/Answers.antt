use Rattle.starlark_lexer.specs.Tokens.{span_of}
use Rattle.starlark_json.proofs.TreeLemmas.AddsLemmas.{one, next}
use Rattle.starlark_json.proofs.TreeLemmas.Statements.{assign_modify_tokens, block_tokens, break_tokens, continue_tokens, def_tokens, for_each_tokens}
use Rattle.starlark_json.proofs.TreeLemmas.Statements.{if_else_tokens, if_then_tokens, pass_tokens}
use Rattle.starlark_json.proofs.tree.statement.+write.Goals as goal

pub write_stmt-returns-in-Break : goal.write_stmt-returns-in-Break
write_stmt-returns-in-Break t c = rw (break_tokens c.args.statement.now (span_of c.args.span) c.in-Break.is) c.write_bare.ensures

pub write_stmt-returns-in-Continue : goal.write_stmt-returns-in-Continue
write_stmt-returns-in-Continue t c = rw (continue_tokens c.args.statement.now (span_of c.args.span) c.in-Continue.is) c.write_bare-in-Continue.ensures

pub write_stmt-returns-in-Pass : goal.write_stmt-returns-in-Pass
write_stmt-returns-in-Pass t c = rw (pass_tokens c.args.statement.now (span_of c.args.span) c.in-Pass.is) c.write_bare-in-Pass.ensures

pub write_stmt-returns-in-Return : goal.write_stmt-returns-in-Return
write_stmt-returns-in-Return t c = rw c.in-Return.is c.write_return.ensures

pub write_stmt-returns-in-Expression : goal.write_stmt-returns-in-Expression
write_stmt-returns-in-Expression t c = rw c.in-Expression.is c.write_value.ensures

pub write_stmt-returns-in-Assign : goal.write_stmt-returns-in-Assign
write_stmt-returns-in-Assign t c = rw c.in-Assign.is c.write_assign.ensures

pub write_stmt-returns-in-For : goal.write_stmt-returns-in-For
write_stmt-returns-in-For t c = rw c.in-For.is c.write_for.ensures

pub write_stmt-returns-in-Def : goal.write_stmt-returns-in-Def
write_stmt-returns-in-Def t c = rw c.in-Def.is c.write_def.ensures

pub write_stmt-returns-in-Load : goal.write_stmt-returns-in-Load
write_stmt-returns-in-Load t c = rw c.in-Load.is c.write_load.ensures

pub write_stmt-returns-in-AssignModify : goal.write_stmt-returns-in-AssignModify
write_stmt-returns-in-AssignModify t c = rw (
  c.in-AssignModify.is,
  assign_modify_tokens c.in-AssignModify.target c.in-AssignModify.operator c.in-AssignModify.value (span_of c.args.span),
)
    (rw c.deref.ensures at c.write_assign_modify.ensures)

pub write_stmt-returns-in-Statements : goal.write_stmt-returns-in-Statements
write_stmt-returns-in-Statements t c = rw (c.in-Statements.is, block_tokens c.in-Statements.parts (span_of c.args.span))
    (rw c.deref-in-Statements.ensures.value at c.write_block.ensures)

pub write_stmt-returns-in_ok-write_part-in-If : goal.write_stmt-returns-in_ok-write_part-in-If
write_stmt-returns-in_ok-write_part-in-If t c = rw (c.in-If.is, if_then_tokens c.in-If.condition c.in-If.body (span_of c.args.span))
    (next c.in_ok-write_head-in-If.ensures (next c.in_ok-write_field-in-If.ensures
    (next (rw (c.deref-in-If.ensures, c.deref-in-If-2.ensures) at c.in_ok-write_part-in-If.ensures) (one c.end_object.ensures))))

pub write_stmt-returns-in_ok-write_blocks-in-IfElse : goal.write_stmt-returns-in_ok-write_blocks-in-IfElse
write_stmt-returns-in_ok-write_blocks-in-IfElse t c = rw (c.in-IfElse.is, if_else_tokens c.in-IfElse.condition c.in-IfElse.blocks (span_of c.args.span))
    (next c.in_ok-write_head-in-IfElse.ensures (next c.in_ok-write_field-in-IfElse.ensures
    (next (rw c.deref-in-IfElse.ensures at c.in_ok-write_blocks-in-IfElse.ensures) (one c.end_object-in-IfElse.ensures))))

pub write_blocks-returns : goal.write_blocks-returns
write_blocks-returns t c = next c.in_ok-write_part.ensures (c.write_part-2.ensures)

pub write_block-returns : goal.write_block-returns
write_block-returns t c = next c.in_ok-write_head.ensures (next c.in_ok-write_parts.ensures (one c.end_object.ensures))

pub write_for-returns : goal.write_for-returns
write_for-returns t c = rw (for_each_tokens c.args.each.now (span_of c.args.span))
    (next c.in_ok-write_head.ensures (next c.in_ok-write_target_field.ensures
    (next c.in_ok-write_field.ensures (next (rw (c.deref.ensures, c.deref-2.ensures) at c.in_ok-write_part.ensures) (one c.end_object.ensures)))))

pub write_def-returns : goal.write_def-returns
write_def-returns t c = rw (def_tokens c.args.def.now (span_of c.args.span))
    (next c.in_ok-write_head.ensures (next c.in_ok-write_bound.ensures (next (rw c.deref.ensures.value at c.in_ok-write_parameters.ensures)
    (next c.in_ok-write_maybe_type.ensures (next (rw (c.deref-2.ensures, c.deref-3.ensures) at c.in_ok-write_part.ensures) (one c.end_object.ensures))))))
