use Rattle.std.proofs.Common.{refl}
use Rattle.starlark_parse_cursor.proofs.Paths.{exits}
use Rattle.starlark_parse.proofs.ExprLemmas.Suffixes.{second_fails, two_found, index_found, slice_after}
use Rattle.starlark_parse.proofs.expr.rules.Rules.after_first.Goals as goal

pub returns-in_err-second-clause-parses : goal.returns-in_err-second-clause-parses
returns-in_err-second-clause-parses g c start h d = exits _ _ _ _ _ _ _ c.from_residual.ensures.1
    (second_fails h c.args.first d c.in-Some.ensures.takes c.in_err-second.ensures.parses)

pub returns-in-Some-clause-parses : goal.returns-in-Some-clause-parses
returns-in-Some-clause-parses g c start h d = two_found h c.args.first d c.in-Some.ensures.takes c.in_ok-second.second c.in_ok-second.ensures.parses

pub returns-in_default-take_if-clause-parses : goal.returns-in_default-take_if-clause-parses
returns-in_default-take_if-clause-parses g c start h d = index_found h c.args.first d c.in_default.ensures.takes c.in_default-take_if.ensures.takes

pub returns-clause-parses : goal.returns-clause-parses
returns-clause-parses g c start h d = slice_after h c.args.first d c.in_default.ensures.takes c.in-Some-take_if.ensures.takes _ _ _ refl c.slice.ensures.parses
