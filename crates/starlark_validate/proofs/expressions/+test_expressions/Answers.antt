use Rattle.std.proofs.Common.{ap, ◌∙◌, map}
use Rattle.starlark_lexer.specs.Tokens.{span_of}
use Rattle.starlark_tree.specs.Places.{behind}
use Rattle.starlark_tree.specs.Views.{expression_of, form_seen, statement_of}
use Rattle.starlark_validate.specs.Validity.{expression_faults}
use Rattle.starlark_validate.proofs.ItemTests.{each_more, each_stops, each_done}
use Rattle.starlark_validate.proofs.NodeParts.{expressions_go_on, expressions_stop, inner_faults, statement_smaller}
use Rattle.starlark_validate.proofs.TestSequences.{nothing, same_err}
use Rattle.starlark_validate.proofs.expressions.+test_expressions.Goals as goal

pub loop-expr-init : goal.loop-expr-init
loop-expr-init t c = nothing

pub returns-in_err-test_expression : goal.returns-in_err-test_expression
returns-in_err-test_expression t c =
    let stopped = each_stops (inner_faults c.args.tests.now.dialect) (behind expression_of) c.deref-expr-items.result.now c.loop-expr.expr-index
    c.expr-item.result c.loop-expr.invariant
    c.loop-expr-test.true c.expr-item.is (rw c.in_err-test_expression.was at c.test_expression.ensures) in
    rw (same_err c.from_residual-in_err-test_expression.result c.in_err-test_expression.field-0.0 c.from_residual-in_err-test_expression.ensures.1)
    (expressions_stop c.args.tests.now.dialect (span_of c.args.statement.now.span) (form_seen c.args.statement.now.node)
    (rw (ap (map (behind expression_of)) c.deref-expr-items.ensures.value ∙ c.in_ok-exprs.ensures) at stopped))

pub loop-expr-preserved : goal.loop-expr-preserved
loop-expr-preserved t c =
    each_more (inner_faults c.args.tests.now.dialect) (behind expression_of) c.deref-expr-items.result.now c.loop-expr.expr-index c.expr-item.result
    c.loop-expr.invariant
    c.loop-expr-test.true c.expr-item.is (rw c.in_ok-test_expression.was at c.test_expression.ensures)

pub loop-part-init : goal.loop-part-init
loop-part-init t c = nothing

pub test_expressions-requires : goal.test_expressions-requires
test_expressions-requires t c =
    let smaller = statement_smaller (behind statement_of) c.deref-part-items.result.now c.loop-part.part-index c.part-item.result
    (span_of c.args.statement.now.span) (form_seen c.args.statement.now.node)
    (ap (map (behind statement_of)) c.deref-part-items.ensures.value ∙ c.in_ok-parts.ensures) c.loop-part-test.true c.part-item.is in
    (rw c.decreases at smaller, tt)

pub returns-in_err-test_expressions : goal.returns-in_err-test_expressions
returns-in_err-test_expressions t c =
    let first = each_done (inner_faults c.args.tests.now.dialect) (behind expression_of) c.deref-expr-items.result.now c.loop-expr.expr-index
    c.loop-expr.invariant c.loop-expr-test.false in
    let stopped = each_stops (expression_faults c.args.tests.now.dialect) (behind statement_of) c.deref-part-items.result.now c.loop-part.part-index
    c.part-item.result c.loop-part.invariant
    c.loop-part-test.true c.part-item.is (rw c.in_err-test_expressions.was at c.test_expressions.ensures) in
    rw (same_err c.from_residual-in_err-test_expressions.result c.in_err-test_expressions.field-0.0 c.from_residual-in_err-test_expressions.ensures.1)
    (expressions_go_on c.args.tests.now.dialect (span_of c.args.statement.now.span) (form_seen c.args.statement.now.node)
    (rw (ap (map (behind expression_of)) c.deref-expr-items.ensures.value ∙ c.in_ok-exprs.ensures) at first)
    (rw (ap (map (behind statement_of)) c.deref-part-items.ensures.value ∙ c.in_ok-parts.ensures) at stopped))

pub loop-part-preserved : goal.loop-part-preserved
loop-part-preserved t c =
    each_more (expression_faults c.args.tests.now.dialect) (behind statement_of) c.deref-part-items.result.now c.loop-part.part-index c.part-item.result
    c.loop-part.invariant
    c.loop-part-test.true c.part-item.is (rw c.in_ok-test_expressions.was at c.test_expressions.ensures)

pub returns : goal.returns
returns t c =
    let first = each_done (inner_faults c.args.tests.now.dialect) (behind expression_of) c.deref-expr-items.result.now c.loop-expr.expr-index
    c.loop-expr.invariant c.loop-expr-test.false in
    let done = each_done (expression_faults c.args.tests.now.dialect) (behind statement_of) c.deref-part-items.result.now c.loop-part.part-index
    c.loop-part.invariant c.loop-part-test.false in
    expressions_go_on c.args.tests.now.dialect (span_of c.args.statement.now.span) (form_seen c.args.statement.now.node)
    (rw (ap (map (behind expression_of)) c.deref-expr-items.ensures.value ∙ c.in_ok-exprs.ensures) at first)
    (rw (ap (map (behind statement_of)) c.deref-part-items.ensures.value ∙ c.in_ok-parts.ensures) at done)
