use Rattle.std.proofs.Common.{[], ◌∷◌, ◌++◌, ap, ◌∙◌}
use Rattle.starlark_parse_held.specs.Held.{expression_of}
use Rattle.starlark_spec.specs.Grammar.ElementOf.{of_elements}
use Rattle.starlark_parse_cursor.proofs.Paths.{gives_exits}
use Rattle.starlark_parse.proofs.ExprLemmas.Lists.{none_given, item_wants}
use Rattle.starlark_parse.proofs.expr.rules.Rules.tests_after.Goals as goal

pub returns-in_err-push-clause-parses : goal.returns-in_err-push-clause-parses
returns-in_err-push-clause-parses g c start s d = gives_exits _ _ _ _ _ _ c.from_residual.ensures.1
    (item_wants of_elements tt (none_given start) s (expression_of c.args.first) d d.means)

pub returns-clause-parses : goal.returns-clause-parses
returns-clause-parses g c start s d =
    c.more_tests.ensures.parses (expression_of c.args.first) (c.in_ok-push.ensures ∙ ap (λ xs. xs ++ expression_of c.args.first ∷ []) c.new-elements.ensures)
    start s d
