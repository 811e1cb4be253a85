use Rattle.starlark_parse_cursor.proofs.Paths.{exits}
use Rattle.starlark_parse.proofs.ExprLemmas.Checked.{found_wants}
use Rattle.starlark_parse.proofs.StmtLemmas.SimpleStatements.{line_alone}
use Rattle.starlark_parse.proofs.stmt.compound.Statements.line.Goals as goal

pub returns-in_err-simple_statement-clause-parses : goal.returns-in_err-simple_statement-clause-parses
returns-in_err-simple_statement-clause-parses g c = exits _ _ _ _ _ _ _ c.from_residual.ensures.1 c.in_err-simple_statement.ensures.parses

pub returns-in_err-joined-clause-parses : goal.returns-in_err-joined-clause-parses
returns-in_err-joined-clause-parses g c = exits _ _ _ _ _ _ _ c.from_residual-in_err-joined.ensures.1 (found_wants c.in_ok-simple_statement.ensures.parses)

pub returns-clause-parses : goal.returns-clause-parses
returns-clause-parses g c = line_alone _ c.in_ok-simple_statement.ensures.parses c.new-statements.ensures c.in_ok-joined.ensures
