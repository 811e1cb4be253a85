use Rattle.std.proofs.Common.{ap, ◌∙◌, map}
use Rattle.starlark_lexer.specs.Tokens.{span_of}
use Rattle.starlark_tree.specs.Places.{behind}
use Rattle.starlark_tree.specs.Views.{form_seen, statement_of}
use Rattle.starlark_validate.specs.Validity.{statement_faults}
use Rattle.starlark_validate.specs.Walks.Statements.{around_in, around_of}
use Rattle.starlark_validate.proofs.ItemTests.{each_more, each_stops, each_done}
use Rattle.starlark_validate.proofs.NodeParts.{statement_goes_on, statement_smaller, statement_stops}
use Rattle.starlark_validate.proofs.TestSequences.{nothing, same_err}
use Rattle.starlark_validate.proofs.statements.+test_statement.Goals as goal

pub returns-in_err-test_alone : goal.returns-in_err-test_alone
returns-in_err-test_alone t c =
    rw (same_err c.from_residual.result c.in_err-test_alone.field-0.0 c.from_residual.ensures.1)
    (statement_stops c.args.tests.now.dialect (around_of c.args.around) (span_of c.args.statement.now.span) (form_seen c.args.statement.now.node)
    (rw c.in_err-test_alone.was at c.test_alone.ensures))

pub loop-part-init : goal.loop-part-init
loop-part-init t c = nothing

pub test_statement-requires : goal.test_statement-requires
test_statement-requires t c =
    let smaller = statement_smaller (behind statement_of) c.deref-part-items.result.now c.loop-part.part-index c.part-item.result
    (span_of c.args.statement.now.span) (form_seen c.args.statement.now.node)
    (ap (map (behind statement_of)) c.deref-part-items.ensures.value ∙ c.in_ok-parts.ensures) c.loop-part-test.true c.part-item.is in
    (rw c.decreases at smaller, tt)

pub returns-in_err-test_statement : goal.returns-in_err-test_statement
returns-in_err-test_statement t c =
    let here = around_in (around_of c.args.around) (form_seen c.args.statement.now.node) in
    let stopped = each_stops (statement_faults c.args.tests.now.dialect here) (behind statement_of) c.deref-part-items.result.now c.loop-part.part-index
    c.part-item.result c.loop-part.invariant
    c.loop-part-test.true c.part-item.is (rw (c.in_err-test_statement.was, c.within.ensures) at c.test_statement.ensures) in
    rw (same_err c.from_residual-in_err-test_statement.result c.in_err-test_statement.field-0.0 c.from_residual-in_err-test_statement.ensures.1)
    (statement_goes_on c.args.tests.now.dialect (around_of c.args.around) (span_of c.args.statement.now.span) (form_seen c.args.statement.now.node)
    (rw c.in_ok-test_alone.was at c.test_alone.ensures)
    (rw (ap (map (behind statement_of)) c.deref-part-items.ensures.value ∙ c.in_ok-parts.ensures) at stopped))

pub loop-part-preserved : goal.loop-part-preserved
loop-part-preserved t c =
    let here = around_in (around_of c.args.around) (form_seen c.args.statement.now.node) in
    each_more (statement_faults c.args.tests.now.dialect here) (behind statement_of) c.deref-part-items.result.now c.loop-part.part-index c.part-item.result
    c.loop-part.invariant
    c.loop-part-test.true c.part-item.is (rw (c.in_ok-test_statement.was, c.within.ensures) at c.test_statement.ensures)

pub returns : goal.returns
returns t c =
    let here = around_in (around_of c.args.around) (form_seen c.args.statement.now.node) in
    let done = each_done (statement_faults c.args.tests.now.dialect here) (behind statement_of) c.deref-part-items.result.now c.loop-part.part-index
    c.loop-part.invariant c.loop-part-test.false in
    statement_goes_on c.args.tests.now.dialect (around_of c.args.around) (span_of c.args.statement.now.span) (form_seen c.args.statement.now.node)
    (rw c.in_ok-test_alone.was at c.test_alone.ensures)
    (rw (ap (map (behind statement_of)) c.deref-part-items.ensures.value ∙ c.in_ok-parts.ensures) at done)
