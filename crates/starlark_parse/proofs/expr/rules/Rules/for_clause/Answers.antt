use Rattle.starlark_parse_cursor.proofs.Paths.{exits}
use Rattle.starlark_parse.proofs.ExprLemmas.Comprehensions.{no_for, variables_fail, no_in, source_fails, clause_found, clause_fails}
use Rattle.starlark_parse.proofs.expr.rules.Rules.for_clause.Goals as goal

pub returns-in_err-_for-clause-parses : goal.returns-in_err-_for-clause-parses
returns-in_err-_for-clause-parses g c = exits _ _ _ _ _ _ _ c.from_residual.ensures.1 (no_for c.in_err-_for.ensures.expects)

pub returns-in_err-variables-clause-parses : goal.returns-in_err-variables-clause-parses
returns-in_err-variables-clause-parses g c = exits _ _ _ _ _ _ _ c.from_residual-in_err-variables.ensures.1
    (variables_fail c.in_ok-_for.ensures.expects c.in_err-variables.ensures.parses)

pub returns-in_err-_in-clause-parses : goal.returns-in_err-_in-clause-parses
returns-in_err-_in-clause-parses g c =
    exits _ _ _ _ _ _ _ c.from_residual-in_err-_in.ensures.1 (no_in c.in_ok-_for.ensures.expects c.in_ok-variables.variables c.in_ok-variables.ensures.parses
    c.in_err-_in.ensures.expects)

pub returns-in_err-over-clause-parses : goal.returns-in_err-over-clause-parses
returns-in_err-over-clause-parses g c =
    exits _ _ _ _ _ _ _ c.from_residual-in_err-over.ensures.1
    (source_fails c.in_ok-_for.ensures.expects c.in_ok-variables.variables c.in_ok-variables.ensures.parses c.in_ok-_in.ensures.expects
    c.in_err-over.ensures.parses)

pub returns-in-Ok-clause-parses : goal.returns-in-Ok-clause-parses
returns-in-Ok-clause-parses g c =
    clause_found c.in_ok-_for.ensures.expects c.in_ok-variables.variables c.in_ok-variables.ensures.parses c.in_ok-_in.ensures.expects c.in_ok-over.over
    c.in_ok-over.ensures.parses
    c.in-Ok.clause c.in-Ok.ensures.means c.in-Ok.ensures.finds

pub returns-in-Err-clause-parses : goal.returns-in-Err-clause-parses
returns-in-Err-clause-parses g c =
    clause_fails c.in_ok-_for.ensures.expects c.in_ok-variables.variables c.in_ok-variables.ensures.parses c.in_ok-_in.ensures.expects c.in_ok-over.over
    c.in_ok-over.ensures.parses
    c.in-Err.error c.in-Err.ensures.finds c.unless_out_of_memory.ensures
