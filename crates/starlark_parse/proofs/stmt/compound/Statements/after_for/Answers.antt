use Rattle.std.proofs.Common.{ap}
use Rattle.starlark_lexer.specs.declared.span.Pos.{Pos}
use Rattle.starlark_parse_held.specs.Held.{expression_of, statement_of}
use Rattle.starlark_parse_cursor.proofs.Paths.{exits}
use Rattle.starlark_parse.proofs.StmtLemmas.Loops.{variables_fail, no_in, source_fails, no_colon, body_fails, loop_fails, loop_found, for_is}
use Rattle.starlark_parse.proofs.stmt.compound.Statements.after_for.Goals as goal

pub returns-in_err-variables-clause-parses : goal.returns-in_err-variables-clause-parses
returns-in_err-variables-clause-parses g c = exits _ _ _ _ _ _ _ c.from_residual.ensures.1 (variables_fail _ c.in_err-variables.ensures.parses)

pub returns-in_err-_in-clause-parses : goal.returns-in_err-_in-clause-parses
returns-in_err-_in-clause-parses g c = exits _ _ _ _ _ _ _ c.from_residual-in_err-_in.ensures.1
    (no_in _ c.in_ok-variables.variables c.in_ok-variables.ensures.parses c.in_err-_in.ensures.expects)

pub returns-in_err-source-clause-parses : goal.returns-in_err-source-clause-parses
returns-in_err-source-clause-parses g c =
    exits _ _ _ _ _ _ _ c.from_residual-in_err-source.ensures.1
    (source_fails _ c.in_ok-variables.variables c.in_ok-variables.ensures.parses c.in_ok-_in.ensures.expects c.in_err-source.ensures.parses)

pub returns-in_err-_colon-clause-parses : goal.returns-in_err-_colon-clause-parses
returns-in_err-_colon-clause-parses g c =
    exits _ _ _ _ _ _ _ c.from_residual-in_err-_colon.ensures.1
    (no_colon _ c.in_ok-variables.variables c.in_ok-variables.ensures.parses c.in_ok-_in.ensures.expects c.in_ok-source.source c.in_ok-source.ensures.parses
    c.in_err-_colon.ensures.expects)

pub returns-in_err-body-clause-parses : goal.returns-in_err-body-clause-parses
returns-in_err-body-clause-parses g c =
    exits _ _ _ _ _ _ _ c.from_residual-in_err-body.ensures.1
    (body_fails _ c.in_ok-variables.variables c.in_ok-variables.ensures.parses c.in_ok-_in.ensures.expects c.in_ok-source.source c.in_ok-source.ensures.parses
    c.in_ok-_colon.ensures.expects c.in_err-body.ensures.parses)

pub returns-in-Ok-clause-parses : goal.returns-in-Ok-clause-parses
returns-in-Ok-clause-parses g c =
    loop_found _ c.in_ok-variables.variables c.in_ok-variables.ensures.parses c.in_ok-_in.ensures.expects c.in_ok-source.source c.in_ok-source.ensures.parses
    c.in_ok-_colon.ensures.expects c.in_ok-body.body c.in_ok-body.ensures.parses
    c.in-Ok.statement c.in-Ok.ensures.finds (for_is (expression_of c.in_ok-variables.variables) (expression_of c.in_ok-source.source)
    (statement_of c.in_ok-body.body) c.in-Ok.ensures.means (ap (λ (p : Pos). p.byte) c.begin.ensures))

pub returns-in-Err-clause-parses : goal.returns-in-Err-clause-parses
returns-in-Err-clause-parses g c =
    loop_fails _ c.in_ok-variables.variables c.in_ok-variables.ensures.parses c.in_ok-_in.ensures.expects c.in_ok-source.source c.in_ok-source.ensures.parses
    c.in_ok-_colon.ensures.expects c.in_ok-body.body c.in_ok-body.ensures.parses
    c.in-Err.error c.in-Err.ensures.finds c.unless_out_of_memory.ensures
