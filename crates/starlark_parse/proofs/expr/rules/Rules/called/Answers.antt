use Rattle.starlark_parse_cursor.proofs.Paths.{gives_exits}
use Rattle.starlark_parse.proofs.ExprLemmas.Suffixes.{arguments_fail, call_open, call_wants, call_found}
use Rattle.starlark_parse.proofs.ExprLemmas.Lists.{added_to_none}
use Rattle.starlark_parse.proofs.expr.rules.Rules.called.Goals as goal

pub returns-in_err-arguments-clause-parses : goal.returns-in_err-arguments-clause-parses
returns-in_err-arguments-clause-parses g c opening = gives_exits _ _ _ _ _ _ c.from_residual.ensures.1
    (arguments_fail opening c.in_err-arguments.ensures.parses)

pub returns-in_err-_closing-clause-parses : goal.returns-in_err-_closing-clause-parses
returns-in_err-_closing-clause-parses g c opening =
    gives_exits _ _ _ _ _ _ c.from_residual-in_err-_closing.ensures.1
    (call_open opening (added_to_none c.new-arguments.ensures c.in_ok-arguments.ensures.parses) c.in_err-_closing.ensures.expects)

pub returns-in_err-called_with-clause-parses : goal.returns-in_err-called_with-clause-parses
returns-in_err-called_with-clause-parses g c opening =
    gives_exits _ _ _ _ _ _ c.from_residual-in_err-called_with.ensures.1
    (call_wants opening (added_to_none c.new-arguments.ensures c.in_ok-arguments.ensures.parses) c.in_ok-_closing.ensures.expects)

pub returns-clause-parses : goal.returns-clause-parses
returns-clause-parses g c opening =
    call_found opening (added_to_none c.new-arguments.ensures c.in_ok-arguments.ensures.parses) c.in_ok-_closing.ensures.expects
    c.in_ok-called_with.ensures.means
