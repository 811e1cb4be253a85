use Rattle.std.proofs.Common.{ap}
use Rattle.starlark_lexer.specs.declared.span.Pos.{Pos}
use Rattle.starlark_parse.proofs.ExprLemmas.Lambdas.{bare_star, args_found, args_is}
use Rattle.starlark_parse.proofs.expr.lambda.after_star.Goals as goal

pub returns-then-not-at-clause-parses : goal.returns-then-not-at-clause-parses
returns-then-not-at-clause-parses g c = bare_star c.args.star c.star_parameter.result c.star_parameter.ensures (cc) (ap (λ (p : Pos). p.byte) c.requires.star)

pub returns-clause-parses : goal.returns-clause-parses
returns-clause-parses g c =
    args_found _ c.in_ok-name.name c.in_ok-name.ensures.takes c.args_parameter.result
    (args_is c.args_parameter.ensures (ap (λ (p : Pos). p.byte) c.begin.ensures))
