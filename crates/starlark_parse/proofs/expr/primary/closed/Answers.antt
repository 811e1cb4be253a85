use Rattle.starlark_parse_cursor.proofs.Paths.{gives_exits}
use Rattle.starlark_parse.proofs.ExprLemmas.Suffixes.{no_closing, subscript_wants, subscript_found}
use Rattle.starlark_parse.proofs.expr.primary.closed.Goals as goal

pub returns-in_err-_closing-clause-parses : goal.returns-in_err-_closing-clause-parses
returns-in_err-_closing-clause-parses g c opening start begin d = gives_exits _ _ _ _ _ _ c.from_residual.ensures.1
    (no_closing opening c.args.subscript d c.in_err-_closing.ensures.expects)

pub returns-in_err-suffixed-clause-parses : goal.returns-in_err-suffixed-clause-parses
returns-in_err-suffixed-clause-parses g c opening start begin d =
    gives_exits _ _ _ _ _ _ c.from_residual-in_err-suffixed.ensures.1 (subscript_wants opening c.args.subscript d c.in_ok-_closing.ensures.expects)

pub returns-clause-parses : goal.returns-clause-parses
returns-clause-parses g c opening start begin d = subscript_found opening c.args.subscript d c.in_ok-_closing.ensures.expects c.in_ok-suffixed.ensures.means
