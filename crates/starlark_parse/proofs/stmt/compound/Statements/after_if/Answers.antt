use Rattle.std.proofs.Common.{ap}
use Rattle.starlark_lexer.specs.declared.span.Pos.{Pos}
use Rattle.starlark_parse_cursor.proofs.Paths.{exits}
use Rattle.starlark_parse.proofs.StmtLemmas.Branches.{head_fails, if_fails, if_wants, if_found, if_is}
use Rattle.starlark_parse.proofs.stmt.compound.Statements.after_if.Goals as goal

pub returns-in_err-branch-clause-parses : goal.returns-in_err-branch-clause-parses
returns-in_err-branch-clause-parses g c = exits _ _ _ _ _ _ _ c.from_residual.ensures.1 (head_fails _ c.in_err-branch.ensures.parses)

pub returns-in_err-other-clause-parses : goal.returns-in_err-other-clause-parses
returns-in_err-other-clause-parses g c = exits _ _ _ _ _ _ _ c.from_residual-in_err-other.ensures.1
    (if_fails _ _ c.in_ok-branch.ensures.parses c.in_err-other.ensures.parses)

pub returns-in_err-if_statement-clause-parses : goal.returns-in_err-if_statement-clause-parses
returns-in_err-if_statement-clause-parses g c = exits _ _ _ _ _ _ _ c.from_residual-in_err-if_statement.ensures.1
    (if_wants _ _ c.in_ok-branch.ensures.parses _ c.in_ok-other.ensures.parses)

pub returns-clause-parses : goal.returns-clause-parses
returns-clause-parses g c =
    if_found _ _ c.in_ok-branch.ensures.parses c.in_ok-other.other c.in_ok-other.ensures.parses c.in_ok-if_statement.field-0
    (if_is _ _ _ c.in_ok-if_statement.ensures (ap (λ (p : Pos). p.byte) c.in_ok-branch.ensures.begin))
