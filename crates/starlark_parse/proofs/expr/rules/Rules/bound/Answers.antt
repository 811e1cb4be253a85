use Rattle.std.proofs.Common.{refl}
use Rattle.starlark_parse_cursor.proofs.Paths.{gives_exits}
use Rattle.starlark_parse.proofs.ExprLemmas.Suffixes.{bound_absent, bound_fails, bound_found}
use Rattle.starlark_parse.proofs.expr.rules.Rules.bound.Goals as goal

pub returns-then-not-at_test-clause-parses :
    goal.returns-then-not-at_test-clause-parses
returns-then-not-at_test-clause-parses g c = bound_absent (cc)

pub returns-in_err-test-clause-parses : goal.returns-in_err-test-clause-parses
returns-in_err-test-clause-parses g c = gives_exits _ _ _ _ _ _ c.from_residual.ensures.1 (bound_fails (cc) c.in_err-test.ensures.parses)

pub returns-clause-parses : goal.returns-clause-parses
returns-clause-parses g c = bound_found c.in_ok-test.field-0 (cc) c.in_ok-test.ensures.parses refl
