use Rattle.starlark_parse_cursor.proofs.Paths.{gives_exits}
use Rattle.starlark_parse.proofs.StmtLemmas.Branches.{no_last, no_else_colon, else_fails, else_found}
use Rattle.starlark_parse.proofs.stmt.compound.Statements.last.Goals as goal

pub returns-in_default-clause-parses : goal.returns-in_default-clause-parses
returns-in_default-clause-parses g c = no_last c.requires.no_elif c.in_default.ensures.takes

pub returns-in_err-_colon-clause-parses : goal.returns-in_err-_colon-clause-parses
returns-in_err-_colon-clause-parses g c = gives_exits _ _ _ _ _ _ c.from_residual.ensures.1
    (no_else_colon c.in-Some.ensures.takes c.in_err-_colon.ensures.expects)

pub returns-in_err-body-clause-parses : goal.returns-in_err-body-clause-parses
returns-in_err-body-clause-parses g c =
    gives_exits _ _ _ _ _ _ c.from_residual-in_err-body.ensures.1
    (else_fails c.in-Some.ensures.takes c.in_ok-_colon.ensures.expects c.in_err-body.ensures.parses)

pub returns-clause-parses : goal.returns-clause-parses
returns-clause-parses g c = else_found c.in-Some.ensures.takes c.in_ok-_colon.ensures.expects c.in_ok-body.body c.in_ok-body.ensures.parses
