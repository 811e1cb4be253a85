use Rattle.std.proofs.Common.{refl}
use Rattle.starlark_parse.specs.Expr.Expressions.{IsTest}
use Rattle.starlark_parse_cursor.proofs.Paths.{into_taken, into_kept}
use Rattle.starlark_parse.proofs.expr.test.any_test.Goals as goal

pub returns-in-Some-clause-parses : goal.returns-in-Some-clause-parses
returns-in-Some-clause-parses g c = into_taken _ _ _ c.in-Some.ensures.takes (λ p. refl) c.after_lambda.ensures.parses

pub returns-clause-parses : goal.returns-clause-parses
returns-clause-parses g c = into_kept _ _ IsTest _ _ _ _ c.in_default.ensures.takes.1 (λ p. rw c.in_default.ensures.takes.0 refl) c.if_expression.ensures.parses
