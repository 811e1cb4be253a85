use Rattle.std.proofs.Common.{refl, ◌∙◌}
use Rattle.starlark_parse.proofs.ExprLemmas.Suffixes.{some_suffix, into_suffix}
use Rattle.starlark_parse.proofs.expr.rules.Rules.suffix.Goals as goal

pub returns-in-Some-clause-parses : goal.returns-in-Some-clause-parses
returns-in-Some-clause-parses g c = into_suffix _ c.args.operand c.called.result refl c.in-Some.ensures.takes (λ d p. refl) (c.called.ensures.parses _)

pub returns-in-Some-take_if-clause-parses : goal.returns-in-Some-take_if-clause-parses
returns-in-Some-take_if-clause-parses g c =
    into_suffix _ c.args.operand c.attribute.result c.in_default.ensures.takes.1 c.in-Some-take_if.ensures.takes (λ d p. refl) (c.attribute.ensures.parses _)

pub returns-in_err-_opening-clause-parses : goal.returns-in_err-_opening-clause-parses
returns-in_err-_opening-clause-parses g c = absurd (some_suffix c.requires.comes c.in_default.ensures.takes c.in_default-take_if.ensures.takes
    c.in_err-_opening.ensures.expects.0)

pub returns-clause-parses : goal.returns-clause-parses
returns-clause-parses g c =
    into_suffix _ c.args.operand c.indexed.result (c.in_default-take_if.ensures.takes.1 ∙ c.in_default.ensures.takes.1) c.in_ok-_opening.ensures.expects
    (λ d p. refl) (c.indexed.ensures.parses _)
