use Rattle.std.proofs.Common.{refl}
use Rattle.starlark_parse_cursor.proofs.Paths.{gives_exits}
use Rattle.starlark_parse.proofs.StmtLemmas.Branches.{condition_fails, no_colon, suite_fails, branch_found}
use Rattle.starlark_parse.proofs.stmt.compound.Statements.branch.Goals as goal

pub returns-in_err-condition-clause-parses : goal.returns-in_err-condition-clause-parses
returns-in_err-condition-clause-parses g c = gives_exits _ _ _ _ _ _ c.from_residual.ensures.1 (condition_fails c.in_err-condition.ensures.parses)

pub returns-in_err-_colon-clause-parses : goal.returns-in_err-_colon-clause-parses
returns-in_err-_colon-clause-parses g c =
    gives_exits _ _ _ _ _ _ c.from_residual-in_err-_colon.ensures.1
    (no_colon c.in_ok-condition.condition c.in_ok-condition.ensures.parses c.in_err-_colon.ensures.expects)

pub returns-in_err-body-clause-parses : goal.returns-in_err-body-clause-parses
returns-in_err-body-clause-parses g c =
    gives_exits _ _ _ _ _ _ c.from_residual-in_err-body.ensures.1
    (suite_fails c.in_ok-condition.condition c.in_ok-condition.ensures.parses c.in_ok-_colon.ensures.expects c.in_err-body.ensures.parses)

pub returns-clause-parses : goal.returns-clause-parses
returns-clause-parses g c =
    branch_found c.in_ok-condition.condition c.in_ok-condition.ensures.parses c.in_ok-_colon.ensures.expects c.in_ok-body.body c.in_ok-body.ensures.parses _
    refl refl
