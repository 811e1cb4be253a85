use Rattle.starlark_parse_cursor.proofs.Paths.{exits}
use Rattle.starlark_parse.proofs.ExprLemmas.Bracketed.{in_square, list_fails}
use Rattle.starlark_parse.proofs.expr.rules.Rules.square.Goals as goal

pub returns-in_err-listed-clause-parses : goal.returns-in_err-listed-clause-parses
returns-in_err-listed-clause-parses g c = exits _ _ _ _ _ _ _ c.from_residual.ensures.1 (list_fails in_square _ c.in_err-listed.ensures.parses)

pub returns-clause-parses : goal.returns-clause-parses
returns-clause-parses g c = c.after_bracket.ensures.parses _ c.in_ok-listed.ensures.parses
