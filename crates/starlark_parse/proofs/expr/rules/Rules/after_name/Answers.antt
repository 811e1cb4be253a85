use Rattle.std.proofs.Common.{ap}
use Rattle.starlark_lexer.specs.declared.span.Pos.{Pos}
use Rattle.starlark_tree.specs.Views.{word}
use Rattle.starlark_parse_cursor.proofs.Paths.{exits}
use Rattle.starlark_parse.proofs.ExprLemmas.Lambdas.{normal_is, name_found, default_fails, default_found}
use Rattle.starlark_parse.proofs.expr.rules.Rules.after_name.Goals as goal

pub returns-in_default-clause-parses :
    goal.returns-in_default-clause-parses
returns-in_default-clause-parses g c =
    name_found (word c.args.name) c.normal_parameter.result c.in_default.ensures.takes (ap (λ (p : Pos). p.byte) c.requires.name)
    (normal_is c.normal_parameter.ensures (ap (λ (p : Pos). p.byte) c.begin-begin.ensures))

pub returns-clause-parses : goal.returns-clause-parses
returns-clause-parses g c =
    default_found (word c.args.name) c.in-Some.ensures.takes c.in_ok-value.value c.default_parameter.result c.in_ok-value.ensures.parses
    (normal_is c.default_parameter.ensures (ap (λ (p : Pos). p.byte) c.begin-begin.ensures))

pub returns-in_err-value-clause-parses : goal.returns-in_err-value-clause-parses
returns-in_err-value-clause-parses g c = exits _ _ _ _ _ _ _ c.from_residual.ensures.1
    (default_fails (word c.args.name) c.in-Some.ensures.takes c.in_err-value.ensures.parses)
