use Rattle.std.proofs.Common.{◌++◌}
use Rattle.starlark_tree.specs.Views.{statement_of}
use Rattle.starlark_validate.specs.Validity.{expression_faults, statement_faults, top}
use Rattle.starlark_validate.proofs.TestSequences.{then, stops, same_err}
use Rattle.starlark_validate.proofs.validate.Goals as goal

pub returns-in_err-kept : goal.returns-in_err-kept
returns-in_err-kept c =
    let s = statement_of c.args.statement.now in
    rw (same_err c.from_residual-in_err-kept.result c.in_err-kept.field-0.0 c.from_residual-in_err-kept.ensures.1)
    (stops (statement_faults c.args.dialect.now top s ++ expression_faults c.args.dialect.now s) (rw c.in_err-kept.was at c.kept.ensures))

pub returns-in_err-test_statement : goal.returns-in_err-test_statement
returns-in_err-test_statement c =
    let s = statement_of c.args.statement.now in
    rw (same_err c.from_residual-in_err-test_statement.result c.in_err-test_statement.field-0.0 c.from_residual-in_err-test_statement.ensures.1)
    (then (rw c.in_ok-kept.was at c.kept.ensures) (stops {fs = statement_faults c.args.dialect.now top (statement_of c.args.statement.now)}
    (expression_faults c.args.dialect.now s) (rw (c.in_err-test_statement.was, c.top.ensures) at c.test_statement.ensures)))

pub returns : goal.returns
returns c = then (rw c.in_ok-kept.was at c.kept.ensures) (then (rw (c.in_ok-test_statement.was, c.top.ensures) at c.test_statement.ensures)
    c.test_expressions.ensures)
