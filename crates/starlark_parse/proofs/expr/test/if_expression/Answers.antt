use Rattle.starlark_parse_cursor.proofs.Paths.{exits}
use Rattle.starlark_parse.proofs.ExprLemmas.Operands.{value_fails, value_found}
use Rattle.starlark_parse.proofs.expr.test.if_expression.Goals as goal

pub returns-in_err-value-clause-parses : goal.returns-in_err-value-clause-parses
returns-in_err-value-clause-parses g c = exits _ _ _ _ _ _ _ c.from_residual.ensures.1 (value_fails c.in_err-value.ensures.parses)

pub returns-in_default-clause-parses : goal.returns-in_default-clause-parses
returns-in_default-clause-parses g c =
    let d = c.in_ok-value.ensures.parses in
    value_found d c.in_ok-value.value d.means c.in_default.ensures.takes

pub returns-clause-parses : goal.returns-clause-parses
returns-clause-parses g c = c.after_value_if.ensures.parses _ _ c.in_ok-value.ensures.parses c.in-Some.ensures.takes
