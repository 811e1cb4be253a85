use Rattle.std.proofs.Common.{refl, ◌∙◌, subst}
use Rattle.starlark_spec.specs.Grammar.Nonterminal.{LambdaParam}
use Rattle.starlark_parse_cursor.specs.Reading.{at}
use Rattle.starlark_parse_cursor.specs.Contract.{Parses}
use Rattle.starlark_parse.specs.Expr.Expressions.{IsParameter}
use Rattle.starlark_parse_cursor.proofs.Paths.{exits, into_taken}
use Rattle.starlark_parse.proofs.ExprLemmas.Lambdas.{slash_found, no_parameter}
use Rattle.starlark_parse.proofs.expr.rules.Rules.parameter.Goals as goal

pub returns-in-Some-clause-parses : goal.returns-in-Some-clause-parses
returns-in-Some-clause-parses g c = slash_found c.in-Some.span c.slash_parameter.result c.slash_parameter.ensures c.in-Some.ensures.takes

pub returns-in-Some-take_if-clause-parses :
    goal.returns-in-Some-take_if-clause-parses
returns-in-Some-take_if-clause-parses g c =
    subst (λ a. Parses g.I.Iterator.next_gives LambdaParam IsParameter a c.after_star.result (at c.after_star.new.cursor)) c.in_default.ensures.takes.1
    (into_taken _ _ _ c.in-Some-take_if.ensures.takes (λ p. refl) c.after_star.ensures.parses)

pub returns-in-Some-take_if-2-clause-parses :
    goal.returns-in-Some-take_if-2-clause-parses
returns-in-Some-take_if-2-clause-parses g c =
    subst (λ a. Parses g.I.Iterator.next_gives LambdaParam IsParameter a c.after_stars.result (at c.after_stars.new.cursor))
    (c.in_default-take_if.ensures.takes.1 ∙ c.in_default.ensures.takes.1)
    (into_taken _ _ _ c.in-Some-take_if-2.ensures.takes (λ p. refl) c.after_stars.ensures.parses)

pub returns-in_err-name-clause-parses : goal.returns-in_err-name-clause-parses
returns-in_err-name-clause-parses g c =
    exits _ _ _ _ _ _ _ c.from_residual.ensures.1 (no_parameter c.in_default.ensures.takes c.in_default-take_if.ensures.takes
    c.in_default-take_if-2.ensures.takes c.in_err-name.ensures.takes)

pub returns-clause-parses : goal.returns-clause-parses
returns-clause-parses g c =
    subst (λ a. Parses g.I.Iterator.next_gives LambdaParam IsParameter a c.after_name.result (at c.after_name.new.cursor))
    (c.in_default-take_if-2.ensures.takes.1 ∙ c.in_default-take_if.ensures.takes.1 ∙ c.in_default.ensures.takes.1)
    (into_taken _ _ _ c.in_ok-name.ensures.takes (λ p. refl) c.after_name.ensures.parses)
