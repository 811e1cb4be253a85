use Rattle.starlark_source.specs.Lines.{as_line}
use Rattle.starlark_source.specs.DraftedLines.{drafted_lines}
use Rattle.starlark_source.proofs.PageLemmas.{wrote_as, wrote_append, wrote_nothing}
use Rattle.starlark_source.proofs.WroteLists.{wrote_more, wrote_all}
use Rattle.starlark_source.proofs.StatementLemmas.{block_alone, block_lines_of, def_lines, elif_else_lines, elif_lines, else_alone, for_lines, if_else_lines}
use Rattle.starlark_source.proofs.StatementLemmas.{if_lines, many_lines, no_lines, one_line, several_lines_of, small_line_of}
use Rattle.starlark_source.proofs.statement.+write.Goals as goal

pub write_lines-returns-in-Statements : goal.write_lines-returns-in-Statements
write_lines-returns-in-Statements t c =
    rw (c.in-Statements.is, several_lines_of c.args.depth c.args.statement.now.span c.in-Statements.parts)
    (wrote_append _ _ _ _ _ c.write_margin.ensures (wrote_append _ _ _ _ _ (rw c.deref.ensures.value at c.write_small_line.ensures) c.put.ensures))

pub write_lines-returns-in-If : goal.write_lines-returns-in-If
write_lines-returns-in-If t c =
    rw (c.in-If.is, if_lines c.args.depth c.args.statement.now.span c.in-If.condition c.in-If.body)
    (wrote_append _ _ _ _ _ c.write_margin-in-If.ensures (wrote_append _ _ _ _ _ c.write_test.ensures (rw c.deref-in-If.ensures at c.write_suite.ensures)))

pub write_lines-returns-in-IfElse : goal.write_lines-returns-in-IfElse
write_lines-returns-in-IfElse t c =
    rw (c.in-IfElse.is, if_else_lines c.args.depth c.args.statement.now.span c.in-IfElse.condition c.in-IfElse.blocks)
    (wrote_append _ _ _ _ _ (wrote_append _ _ _ _ _ c.write_margin-in-IfElse.ensures (wrote_append _ _ _ _ _ c.write_test-in-IfElse.ensures
    (rw c.deref-in-IfElse.ensures at c.write_suite-in-IfElse.ensures))) (rw c.deref-in-IfElse-2.ensures at c.write_else.ensures))

pub write_lines-returns-in-For : goal.write_lines-returns-in-For
write_lines-returns-in-For t c =
    rw (c.in-For.is, for_lines c.args.depth c.args.statement.now.span c.in-For.each)
    (wrote_append _ _ _ _ _ c.write_margin-in-For.ensures
    (wrote_append _ _ _ _ _ c.write_for.ensures (rw c.deref-in-For.ensures at c.write_suite-in-For.ensures)))

pub write_lines-returns-in-Def : goal.write_lines-returns-in-Def
write_lines-returns-in-Def t c =
    rw (c.in-Def.is, def_lines c.args.depth c.args.statement.now.span c.in-Def.def)
    (wrote_append _ _ _ _ _ c.write_margin-in-Def.ensures
    (wrote_append _ _ _ _ _ c.write_def.ensures (rw c.deref-in-Def.ensures at c.write_suite-in-Def.ensures)))

pub write_lines-returns-in_default : goal.write_lines-returns-in_default
write_lines-returns-in_default t c =
    wrote_as _ _ _ _ (wrote_append _ _ _ _ _ c.write_margin-in_default.ensures (wrote_append _ _ _ _ _ c.write_small.ensures c.put-in_default.ensures))
    (small_line_of c.args.depth c.args.statement.now.span c.args.statement.now.node c.in_default.not-Statements c.in_default.not-If
    c.in_default.not-IfElse c.in_default.not-For c.in_default.not-Def)

pub write_else-returns-in-If : goal.write_else-returns-in-If
write_else-returns-in-If t c =
    rw (c.in-If.is, elif_lines c.args.depth c.args.rest.now.span c.in-If.condition c.in-If.body)
    (wrote_append _ _ _ _ _ c.write_margin.ensures (wrote_append _ _ _ _ _ c.write_test.ensures (rw c.deref.ensures at c.write_suite.ensures)))

pub write_else-returns-in-IfElse : goal.write_else-returns-in-IfElse
write_else-returns-in-IfElse t c =
    rw (c.in-IfElse.is, elif_else_lines c.args.depth c.args.rest.now.span c.in-IfElse.condition c.in-IfElse.blocks)
    (wrote_append _ _ _ _ _ (wrote_append _ _ _ _ _ c.write_margin.ensures (wrote_append _ _ _ _ _ c.write_test-in-IfElse.ensures
    (rw c.deref-in-IfElse.ensures at c.write_suite-in-IfElse.ensures))) (rw c.deref-in-IfElse-2.ensures at c.write_else.ensures))

pub write_else-returns-in_default : goal.write_else-returns-in_default
write_else-returns-in_default t c =
    wrote_as _ _ _ _ (wrote_append _ _ _ _ _ c.write_margin.ensures (wrote_append _ _ _ _ _ c.put.ensures c.write_suite-in_default.ensures))
    (else_alone c.args.depth c.args.rest.now.span c.args.rest.now.node c.in_default.not-If c.in_default.not-IfElse)

pub write_suite-returns-then-depth-lt18446744073709551615 : goal.write_suite-returns-then-depth-lt18446744073709551615
write_suite-returns-then-depth-lt18446744073709551615 t c =
    wrote_append _ _ _ _ _ c.put.ensures c.write_body.ensures

pub write_suite-returns-else-depth-lt18446744073709551615 : goal.write_suite-returns-else-depth-lt18446744073709551615
write_suite-returns-else-depth-lt18446744073709551615 t c =
    wrote_append _ _ _ _ _ c.put.ensures (c.report_out_of_memory.ensures _)

pub write_body-returns-in-Statements : goal.write_body-returns-in-Statements
write_body-returns-in-Statements t c =
    rw (c.in-Statements.is, block_lines_of c.args.depth c.args.body.now.span c.in-Statements.parts) (rw c.deref.ensures.value at c.write_block.ensures)

pub write_body-returns-in_default : goal.write_body-returns-in_default
write_body-returns-in_default t c =
    wrote_as _ _ _ _ c.write_lines.ensures (block_alone c.args.depth c.args.body.now.span c.args.body.now.node c.in_default.not-Statements)

pub write_block-returns-in-empty : goal.write_block-returns-in-empty
write_block-returns-in-empty t c =
    wrote_as _ _ _ _ (wrote_append _ _ _ _ _ c.write_margin.ensures c.put.ensures) (no_lines c.args.depth c.args.span c.args.parts.now c.in-empty.len_below)

pub write_block-returns-in-len1 : goal.write_block-returns-in-len1
write_block-returns-in-len1 t c =
    wrote_as _ _ _ _ c.refuse.ensures (one_line c.args.depth c.args.span c.args.parts.now c.in-len1.len_at_least c.in-len1.len_below)

pub write_block-returns-in_default : goal.write_block-returns-in_default
write_block-returns-in_default t c =
    wrote_as _ _ _ _ c.write_all.ensures (many_lines c.args.depth c.args.span c.args.parts.now c.in_default.len_at_least)

pub write_all-loop-part-init : goal.write_all-loop-part-init
write_all-loop-part-init t c =
    wrote_nothing _

pub write_all-loop-part-preserved : goal.write_all-loop-part-preserved
write_all-loop-part-preserved t c =
    wrote_more (λ s. drafted_lines as_line c.args.depth s.span s.node) _ _ _ _ _ _ c.loop-part-test.true c.part-item.is c.loop-part.invariant
    c.write_lines.ensures

pub write_all-returns : goal.write_all-returns
write_all-returns t c =
    wrote_all (λ s. drafted_lines as_line c.args.depth s.span s.node) _ _ _ _ c.loop-part-test.false c.loop-part.invariant
