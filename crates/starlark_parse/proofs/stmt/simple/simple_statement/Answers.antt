use Rattle.std.proofs.Common.{refl}
use Rattle.starlark_parse_cursor.proofs.Paths.{exits}
use Rattle.starlark_parse.proofs.StmtLemmas.SimpleStatements.{first_small_fails, first_small, line_added, newline_absent, line_found}
use Rattle.starlark_parse.proofs.stmt.simple.simple_statement.Goals as goal

pub returns-in_err-small_statement-clause-parses : goal.returns-in_err-small_statement-clause-parses
returns-in_err-small_statement-clause-parses g c = exits _ _ _ _ _ _ _ c.from_residual.ensures.1 (first_small_fails c.in_err-small_statement.ensures.parses)

pub returns-then-at-clause-parses : goal.returns-then-at-clause-parses
returns-then-at-clause-parses g c =
    let d = c.in_ok-small_statement.ensures.parses in
    c.after_first.ensures.parses _ _ _ d.means.0 c.begin-begin.ensures (first_small _ d)

pub returns-in_err-_newline-clause-parses : goal.returns-in_err-_newline-clause-parses
returns-in_err-_newline-clause-parses g c =
    exits _ _ _ _ _ _ _ c.from_residual-in_err-_newline.ensures.1
    (newline_absent (first_small _ c.in_ok-small_statement.ensures.parses) (cc, refl) c.in_err-_newline.ensures.expects)

pub returns-clause-parses : goal.returns-clause-parses
returns-clause-parses g c =
    let d = c.in_ok-small_statement.ensures.parses in
    line_added _ d.means.0 (line_found (first_small _ d) (cc, refl) c.in_ok-_newline.ensures.expects refl)
