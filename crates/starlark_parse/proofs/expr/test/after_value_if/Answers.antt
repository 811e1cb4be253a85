use Rattle.starlark_parse_cursor.proofs.Paths.{exits}
use Rattle.starlark_parse.proofs.ExprLemmas.Operands.{condition_fails, no_else, other_fails, conditional_found, conditional_wants}
use Rattle.starlark_parse.proofs.expr.test.after_value_if.Goals as goal

pub returns-in_err-condition-clause-parses : goal.returns-in_err-condition-clause-parses
returns-in_err-condition-clause-parses g c start middle read sign =
    exits _ _ _ _ _ _ _ c.from_residual.ensures.1 (condition_fails read sign c.in_err-condition.ensures.parses)

pub returns-in_err-expect-clause-parses : goal.returns-in_err-expect-clause-parses
returns-in_err-expect-clause-parses g c start middle read sign =
    exits _ _ _ _ _ _ _ c.from_residual-in_err-expect.ensures.1 (no_else read sign c.in_ok-condition.ensures.parses c.in_err-expect.ensures.expects)

pub returns-in_err-other-clause-parses : goal.returns-in_err-other-clause-parses
returns-in_err-other-clause-parses g c start middle read sign =
    exits _ _ _ _ _ _ _ c.from_residual-in_err-other.ensures.1 (other_fails read sign c.in_ok-condition.ensures.parses c.in_ok-expect.ensures.expects
    c.in_err-other.ensures.parses)

pub returns-in_err-conditional-clause-parses :
    goal.returns-in_err-conditional-clause-parses
returns-in_err-conditional-clause-parses g c start middle read sign = exits _ _ _ _ _ _ _ c.from_residual-in_err-conditional.ensures.1
    (conditional_wants read sign c.in_ok-condition.ensures.parses c.in_ok-expect.ensures.expects c.in_ok-other.ensures.parses)

pub returns-clause-parses : goal.returns-clause-parses
returns-clause-parses g c start middle read sign =
    let k = c.in_ok-condition.ensures.parses in
    conditional_found read sign k c.in_ok-expect.ensures.expects c.in_ok-conditional.field-0 c.args.value c.in_ok-condition.condition c.in_ok-other.other
    read.means k.means c.in_ok-other.ensures.parses
    c.in_ok-conditional.ensures.means
