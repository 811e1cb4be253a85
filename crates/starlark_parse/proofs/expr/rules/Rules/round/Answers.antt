use Rattle.starlark_parse_cursor.proofs.Paths.{exits}
use Rattle.starlark_parse.proofs.ExprLemmas.Bracketed.{in_round, list_fails, tests_from}
use Rattle.starlark_parse.proofs.expr.rules.Rules.round.Goals as goal

pub returns-in_err-listed-clause-parses : goal.returns-in_err-listed-clause-parses
returns-in_err-listed-clause-parses g c = exits _ _ _ _ _ _ _ c.from_residual.ensures.1 (list_fails in_round _ c.in_err-listed.ensures.parses)

pub returns-clause-parses : goal.returns-clause-parses
returns-clause-parses g c = c.after_paren.ensures.parses _ (tests_from _ _ c.begin-begin.ensures c.in_ok-listed.ensures.parses)
