use Rattle.std.proofs.Common.{not}
use Rattle.starlark_lexer.specs.Tokens.{span_of}
use Rattle.starlark_spec.specs.Faults.{rule_fault as fault}
use Rattle.starlark_spec.specs.Faults as rules
use Rattle.starlark_spec.specs.declared.error.DialectError.TheVariants as dialects
use Rattle.starlark_validate.specs.KeptTreeFaults.{listed_if}
use Rattle.starlark_validate.proofs.TestSequences.{then, stops, same_err}
use Rattle.starlark_validate.proofs.statements.test_load.Goals as goal

pub returns-in_err-refuse_misplaced : goal.returns-in_err-refuse_misplaced
returns-in_err-refuse_misplaced c =
    rw (same_err c.from_residual.result c.in_err-refuse_misplaced.field-0.0 c.from_residual.ensures.1)
    (stops (listed_if (not c.args.tests.now.dialect.enable_load) (fault (rules.Dialect dialects.Load) (span_of c.args.span)))
    (rw c.in_err-refuse_misplaced.was at c.refuse_misplaced.ensures))

pub returns : goal.returns
returns c = then (rw c.in_ok-refuse_misplaced.was at c.refuse_misplaced.ensures) c.refuse_left_out.ensures
