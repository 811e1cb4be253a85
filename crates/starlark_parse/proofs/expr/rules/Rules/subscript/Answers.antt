use Rattle.std.proofs.Common.{refl}
use Rattle.starlark_parse_cursor.proofs.Paths.{exits}
use Rattle.starlark_parse.proofs.ExprLemmas.Suffixes.{index_fails, no_colon, slice_without}
use Rattle.starlark_parse.proofs.expr.rules.Rules.subscript.Goals as goal

pub returns-in_err-expect-clause-parses : goal.returns-in_err-expect-clause-parses
returns-in_err-expect-clause-parses g c = exits _ _ _ _ _ _ _ c.from_residual.ensures.1 (no_colon (cc) c.in_err-expect.ensures.expects)

pub returns-then-not-at_test-clause-parses : goal.returns-then-not-at_test-clause-parses
returns-then-not-at_test-clause-parses g c = slice_without (cc) c.in_ok-expect.ensures.expects _ _ _ refl c.slice.ensures.parses

pub returns-in_err-first-clause-parses : goal.returns-in_err-first-clause-parses
returns-in_err-first-clause-parses g c = exits _ _ _ _ _ _ _ c.from_residual-in_err-first.ensures.1 (index_fails (cc) c.in_err-first.ensures.parses)

pub returns-clause-parses : goal.returns-clause-parses
returns-clause-parses g c = c.after_first.ensures.parses _ (cc) c.in_ok-first.ensures.parses
