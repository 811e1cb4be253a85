use Rattle.starlark_parse_cursor.proofs.Paths.{gives_exits}
use Rattle.starlark_parse.proofs.ExprLemmas.FStrings.{value_fails as in_hole_fails, hole_fails, not_closed, hole_found}
use Rattle.starlark_parse.proofs.expr.rules.Rules.hole.Goals as goal

pub returns-in_err-value-clause-parses : goal.returns-in_err-value-clause-parses
returns-in_err-value-clause-parses g c = gives_exits _ _ _ _ _ _ c.from_residual.ensures.1 (in_hole_fails c.in_err-value.ensures.parses)

pub returns-in_err-conversion-clause-parses : goal.returns-in_err-conversion-clause-parses
returns-in_err-conversion-clause-parses g c =
    gives_exits _ _ _ _ _ _ c.from_residual-in_err-conversion.ensures.1
    (hole_fails c.in_ok-value.value c.in_ok-value.ensures.parses c.in_err-conversion.ensures.parses)

pub returns-in_err-expect-clause-parses : goal.returns-in_err-expect-clause-parses
returns-in_err-expect-clause-parses g c =
    gives_exits _ _ _ _ _ _ c.from_residual-in_err-expect.ensures.1 (not_closed c.in_ok-value.value c.in_ok-value.ensures.parses c.in_ok-conversion.conversion
    c.in_ok-conversion.ensures.parses c.in_err-expect.ensures.expects)

pub returns-clause-parses : goal.returns-clause-parses
returns-clause-parses g c =
    hole_found c.in_ok-value.value c.in_ok-value.ensures.parses c.in_ok-conversion.conversion c.in_ok-conversion.ensures.parses c.in_ok-expect.ensures.expects
