use Rattle.starlark_parse_cursor.proofs.Paths.{gives_exits}
use Rattle.starlark_parse.proofs.ExprLemmas.Suffixes.{subscript_fails}
use Rattle.starlark_parse.proofs.expr.rules.Rules.indexed.Goals as goal

pub returns-in_err-subscript-clause-parses : goal.returns-in_err-subscript-clause-parses
returns-in_err-subscript-clause-parses g c opening = gives_exits _ _ _ _ _ _ c.from_residual.ensures.1
    (subscript_fails opening c.in_err-subscript.ensures.parses)

pub returns-clause-parses : goal.returns-clause-parses
returns-clause-parses g c opening = c.closed.ensures.parses opening _ _ c.in_ok-subscript.ensures.parses
