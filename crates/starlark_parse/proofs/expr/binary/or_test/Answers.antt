use Rattle.starlark_parse_cursor.proofs.Paths.{exits}
use Rattle.starlark_parse.proofs.ExprLemmas.Operators.{operand_fails}
use Rattle.starlark_parse.proofs.ExprLemmas.Single.{first_due}
use Rattle.starlark_parse.proofs.expr.binary.or_test.Goals as goal

pub returns-in_err-operand-clause-parses : goal.returns-in_err-operand-clause-parses
returns-in_err-operand-clause-parses g c = exits _ _ _ _ _ _ _ c.from_residual.ensures.1 (operand_fails (first_due (cc)) c.in_err-operand.ensures.parses)

pub returns-clause-parses : goal.returns-clause-parses
returns-clause-parses g c = c.all_operations.ensures.parses _ (cc) c.in_ok-operand.ensures.parses
