use Rattle.starlark_parse_cursor.proofs.Paths.{exits}
use Rattle.starlark_parse.proofs.ExprLemmas.Bracketed.{in_curly, list_fails}
use Rattle.starlark_parse.proofs.expr.rules.Rules.curly.Goals as goal

pub returns-in_err-listed-clause-parses : goal.returns-in_err-listed-clause-parses
returns-in_err-listed-clause-parses g c = exits _ _ _ _ _ _ _ c.from_residual.ensures.1 (list_fails in_curly _ c.in_err-listed.ensures.parses)

pub returns-clause-parses : goal.returns-clause-parses
returns-clause-parses g c = c.after_brace.ensures.parses _ c.in_ok-listed.ensures.parses
