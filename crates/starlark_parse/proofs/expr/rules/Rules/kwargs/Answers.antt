use Rattle.std.proofs.Common.{ap}
use Rattle.starlark_lexer.specs.declared.span.Pos.{Pos}
use Rattle.starlark_parse_cursor.proofs.Paths.{exits}
use Rattle.starlark_parse.proofs.ExprLemmas.Checked.{found_wants}
use Rattle.starlark_parse.proofs.ExprLemmas.Arguments.{added, stars_fail, stars_found}
use Rattle.starlark_parse.proofs.expr.rules.Rules.kwargs.Goals as goal

pub returns-in_err-value-clause-parses : goal.returns-in_err-value-clause-parses
returns-in_err-value-clause-parses g c = exits _ _ _ _ _ _ _ c.from_residual.ensures.1 (stars_fail _ c.in_err-value.ensures.parses)

pub returns-in_err-push_kwargs-clause-parses : goal.returns-in_err-push_kwargs-clause-parses
returns-in_err-push_kwargs-clause-parses g c =
    exits _ _ _ _ _ _ _ c.from_residual-in_err-push_kwargs.ensures.1
    (found_wants (stars_found _ c.in_ok-value.value c.in_ok-value.ensures.parses (ap (λ (p : Pos). p.byte) c.begin.ensures)))

pub returns-clause-parses : goal.returns-clause-parses
returns-clause-parses g c = added _ c.in_ok-push_kwargs.ensures (stars_found _ c.in_ok-value.value c.in_ok-value.ensures.parses
    (ap (λ (p : Pos). p.byte) c.begin.ensures))
