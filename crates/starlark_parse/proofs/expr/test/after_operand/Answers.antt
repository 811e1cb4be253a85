use Rattle.starlark_parse_cursor.proofs.Paths.{exits}
use Rattle.starlark_parse.proofs.ExprLemmas.Operands.{value_fails, value_found}
use Rattle.starlark_parse.proofs.ExprLemmas.Single.{no_lambda_parses, no_lambda_found, no_lambda_fails}
use Rattle.starlark_parse.proofs.expr.test.after_operand.Goals as goal

pub returns-in_err-value-clause-parses : goal.returns-in_err-value-clause-parses
returns-in_err-value-clause-parses g c start l n d =
    exits _ _ _ _ _ _ _ c.from_residual.ensures.1 (no_lambda_fails l (value_fails (c.in_err-value.ensures.parses start n d)))

pub returns-in_default-clause-parses : goal.returns-in_default-clause-parses
returns-in_default-clause-parses g c start l n d =
    let o = c.in_ok-value.ensures.parses start n d in
    no_lambda_found l (value_found o c.in_ok-value.value o.means c.in_default.ensures.takes)

pub returns-clause-parses : goal.returns-clause-parses
returns-clause-parses g c start l n d =
    no_lambda_parses _ _ _ _ l (c.after_value_if.ensures.parses _ _ (c.in_ok-value.ensures.parses start n d) c.in-Some.ensures.takes)
