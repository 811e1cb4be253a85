use Rattle.starlark_parse_cursor.proofs.Paths.{exits}
use Rattle.starlark_parse.proofs.StmtLemmas.TestLists.{first_fails}
use Rattle.starlark_parse.proofs.stmt.test_list.test_list.Goals as goal

pub returns-in_err-first-clause-parses : goal.returns-in_err-first-clause-parses
returns-in_err-first-clause-parses g c = exits _ _ _ _ _ _ _ c.from_residual.ensures.1 (first_fails c.in_err-first.ensures.parses)

pub returns-clause-parses : goal.returns-clause-parses
returns-clause-parses g c = c.after_first.ensures.parses _ c.begin-begin.ensures c.in_ok-first.ensures.parses
