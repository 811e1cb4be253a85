use Rattle.std.proofs.Common.{ap}
use Rattle.starlark_lexer.specs.declared.span.Pos.{Pos}
use Rattle.starlark_parse_cursor.proofs.Paths.{exits}
use Rattle.starlark_parse.proofs.ExprLemmas.Checked.{found_wants}
use Rattle.starlark_parse.proofs.ExprLemmas.Arguments.{added, star_fails, star_found}
use Rattle.starlark_parse.proofs.expr.rules.Rules.args.Goals as goal

pub returns-in_err-value-clause-parses : goal.returns-in_err-value-clause-parses
returns-in_err-value-clause-parses g c = exits _ _ _ _ _ _ _ c.from_residual.ensures.1 (star_fails _ c.in_err-value.ensures.parses)

pub returns-in_err-push_args-clause-parses : goal.returns-in_err-push_args-clause-parses
returns-in_err-push_args-clause-parses g c =
    exits _ _ _ _ _ _ _ c.from_residual-in_err-push_args.ensures.1
    (found_wants (star_found _ c.in_ok-value.value c.in_ok-value.ensures.parses (ap (λ (p : Pos). p.byte) c.begin.ensures)))

pub returns-clause-parses : goal.returns-clause-parses
returns-clause-parses g c = added _ c.in_ok-push_args.ensures (star_found _ c.in_ok-value.value c.in_ok-value.ensures.parses
    (ap (λ (p : Pos). p.byte) c.begin.ensures))
