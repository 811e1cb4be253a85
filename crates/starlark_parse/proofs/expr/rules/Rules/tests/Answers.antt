use Rattle.std.proofs.Common.{refl}
use Rattle.starlark_parse_cursor.proofs.Paths.{gives_exits}
use Rattle.starlark_parse.proofs.ExprLemmas.Lists.{nothing_found, first_fails, one_found}
use Rattle.starlark_parse.proofs.expr.rules.Rules.tests.Goals as goal

pub returns-then-not-at_test-clause-parses :
    goal.returns-then-not-at_test-clause-parses
returns-then-not-at_test-clause-parses g c = nothing_found (cc)

pub returns-in_err-first-clause-parses : goal.returns-in_err-first-clause-parses
returns-in_err-first-clause-parses g c = gives_exits _ _ _ _ _ _ c.from_residual.ensures.1 (first_fails (cc) c.in_err-first.ensures.parses)

pub returns-then-not-at-clause-parses : goal.returns-then-not-at-clause-parses
returns-then-not-at-clause-parses g c = one_found (cc) c.in_ok-first.first c.in_ok-first.ensures.parses (cc, refl)

pub returns-clause-parses : goal.returns-clause-parses
returns-clause-parses g c = c.tests_after.ensures.parses _ (cc) c.in_ok-first.ensures.parses
