use Rattle.std.proofs.Common.{refl, ap, ◌∙◌}
use Rattle.starlark_lexer.specs.declared.span.Pos.{Pos}
use Rattle.starlark_parse_cursor.proofs.Looks.{same_spans}
use Rattle.starlark_parse_cursor.proofs.Paths.{exits}
use Rattle.starlark_parse.proofs.ExprLemmas.FStrings.{pieces_fail, not_ended, f_string_wants, f_string_found, same_f_string}
use Rattle.starlark_parse.proofs.expr.rules.Rules.f_string.Goals as goal

pub returns-in_err-format-clause-parses :
    goal.returns-in_err-format-clause-parses
returns-in_err-format-clause-parses g c quote = exits _ _ _ _ _ _ _ c.from_residual.ensures.1 (pieces_fail quote _ c.in_err-format.ensures.parses)

pub returns-in_err-expect-clause-parses :
    goal.returns-in_err-expect-clause-parses
returns-in_err-expect-clause-parses g c quote =
    exits _ _ _ _ _ _ _ c.from_residual-in_err-expect.ensures.1 (not_ended quote _ c.in_ok-format.ensures.parses c.in_err-expect.ensures.expects)

pub returns-in_err-formatted-clause-parses : goal.returns-in_err-formatted-clause-parses
returns-in_err-formatted-clause-parses g c quote =
    exits _ _ _ _ _ _ _ c.from_residual-in_err-formatted.ensures.1 (f_string_wants quote _ c.in_ok-format.ensures.parses c.in_ok-expect.ensures.expects)

pub returns-clause-parses : goal.returns-clause-parses
returns-clause-parses g c quote =
    f_string_found quote _ c.in_ok-format.ensures.parses c.in_ok-formatted.field-0 c.in_ok-expect.ensures.expects
    (c.in_ok-formatted.ensures ∙ same_f_string (same_spans (ap (λ (p : Pos). p.byte) c.begin.ensures) refl) refl)
