use Rattle.std.proofs.Common.{ap, ◌∙◌, map}
use Rattle.starlark_lexer.specs.Tokens.{span_of}
use Rattle.starlark_tree.specs.Places.{behind}
use Rattle.starlark_tree.specs.Views.{expression_of, shape_seen}
use Rattle.starlark_validate.proofs.ItemTests.{each_more, each_stops, each_done}
use Rattle.starlark_validate.proofs.NodeParts.{expression_goes_on, expression_smaller, expression_stops, inner_faults}
use Rattle.starlark_validate.proofs.TestSequences.{nothing, same_err}
use Rattle.starlark_validate.proofs.expressions.+test_expression.Goals as goal

pub returns-in_err-test_alone : goal.returns-in_err-test_alone
returns-in_err-test_alone t c =
    rw (same_err c.from_residual.result c.in_err-test_alone.field-0.0 c.from_residual.ensures.1)
    (expression_stops c.args.tests.now.dialect (span_of c.args.expr.now.span) (shape_seen c.args.expr.now.node)
    (rw c.in_err-test_alone.was at c.test_alone.ensures))

pub loop-part-init : goal.loop-part-init
loop-part-init t c = nothing

pub test_expression-requires : goal.test_expression-requires
test_expression-requires t c =
    let smaller = expression_smaller (behind expression_of) c.deref-part-items.result.now c.loop-part.part-index c.part-item.result
    (span_of c.args.expr.now.span) (shape_seen c.args.expr.now.node)
    (ap (map (behind expression_of)) c.deref-part-items.ensures.value ∙ c.in_ok-parts.ensures) c.loop-part-test.true c.part-item.is in
    (rw c.decreases at smaller, tt)

pub returns-in_err-test_expression : goal.returns-in_err-test_expression
returns-in_err-test_expression t c =
    let stopped = each_stops (inner_faults c.args.tests.now.dialect) (behind expression_of) c.deref-part-items.result.now c.loop-part.part-index
    c.part-item.result c.loop-part.invariant
    c.loop-part-test.true c.part-item.is (rw c.in_err-test_expression.was at c.test_expression.ensures) in
    rw (same_err c.from_residual-in_err-test_expression.result c.in_err-test_expression.field-0.0 c.from_residual-in_err-test_expression.ensures.1)
    (expression_goes_on c.args.tests.now.dialect (span_of c.args.expr.now.span) (shape_seen c.args.expr.now.node)
    (rw c.in_ok-test_alone.was at c.test_alone.ensures)
    (rw (ap (map (behind expression_of)) c.deref-part-items.ensures.value ∙ c.in_ok-parts.ensures) at stopped))

pub loop-part-preserved : goal.loop-part-preserved
loop-part-preserved t c =
    each_more (inner_faults c.args.tests.now.dialect) (behind expression_of) c.deref-part-items.result.now c.loop-part.part-index c.part-item.result
    c.loop-part.invariant
    c.loop-part-test.true c.part-item.is (rw c.in_ok-test_expression.was at c.test_expression.ensures)

pub returns : goal.returns
returns t c =
    let done = each_done (inner_faults c.args.tests.now.dialect) (behind expression_of) c.deref-part-items.result.now c.loop-part.part-index
    c.loop-part.invariant c.loop-part-test.false in
    expression_goes_on c.args.tests.now.dialect (span_of c.args.expr.now.span) (shape_seen c.args.expr.now.node)
    (rw c.in_ok-test_alone.was at c.test_alone.ensures)
    (rw (ap (map (behind expression_of)) c.deref-part-items.ensures.value ∙ c.in_ok-parts.ensures) at done)
