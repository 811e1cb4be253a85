use Rattle.starlark_parse_cursor.proofs.Paths.{exits}
use Rattle.starlark_parse.proofs.StmtLemmas.TestLists.{first_fails}
use Rattle.starlark_parse.proofs.stmt.test_list.test_list_after.Goals as goal

pub returns-in_err-first-clause-parses : goal.returns-in_err-first-clause-parses
returns-in_err-first-clause-parses g c = λ start b l d. exits _ _ _ _ _ _ _ c.from_residual.ensures.1 (first_fails (c.in_err-first.ensures.parses start l d))

pub returns-clause-parses : goal.returns-clause-parses
returns-clause-parses g c = λ start b l d. c.after_first.ensures.parses start b (c.in_ok-first.ensures.parses start l d)
