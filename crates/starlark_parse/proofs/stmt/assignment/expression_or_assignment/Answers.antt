use Rattle.starlark_parse_cursor.proofs.Paths.{exits}
use Rattle.starlark_parse.proofs.StmtLemmas.SmallStatements.{list_fails}
use Rattle.starlark_parse.proofs.stmt.assignment.expression_or_assignment.Goals as goal

pub returns-in_err-list-clause-parses : goal.returns-in_err-list-clause-parses
returns-in_err-list-clause-parses g c = exits _ _ _ _ _ _ _ c.from_residual.ensures.1 (list_fails c.in_err-list.ensures.parses)

pub returns-clause-parses : goal.returns-clause-parses
returns-clause-parses g c = c.after_list.ensures.parses _ c.begin-begin.ensures c.in_ok-list.ensures.parses
