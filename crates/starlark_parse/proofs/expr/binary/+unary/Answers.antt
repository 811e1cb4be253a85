use Rattle.std.proofs.Common.{sym, ap, ◌∙◌}
use Rattle.starlark_lexer.specs.Tokens.{span_of}
use Rattle.starlark_lexer.specs.declared.span.Pos.{Pos}
use Rattle.starlark_parse_held.specs.Held.{expression_of}
use Rattle.starlark_parse_cursor.proofs.Looks.{same_spans}
use Rattle.starlark_parse_cursor.specs.Reading.{at}
use Rattle.starlark_spec.specs.Machine.Sight.{look_at}
use Rattle.starlark_spec.specs.Machine.Firsts.{is_sign}
use Rattle.starlark_parse.specs.Expr.Operators.{after_operator}
use Rattle.starlark_parse_cursor.proofs.Paths.{exits}
use Rattle.starlark_parse.proofs.ExprLemmas.Operands.{sign_is_token, unary_of_primary, signed_fails, signed_found, signed_wants}
use Rattle.starlark_parse.proofs.expr.binary.+unary.Goals as goal

pub unary-returns-clause-parses : goal.unary-returns-clause-parses
unary-returns-clause-parses g t c = unary_of_primary g.I.Iterator.next_gives (at c.args.cursor.now) (at c.primary.new.cursor) c.primary.result
    (sym (ap is_sign c.kind-operator.ensures) ∙ sym c.is_unary_operator.ensures ∙ c.if-is_unary_operator.false) c.primary.ensures.parses

pub unary_operation-returns-in_default-clause-parses : goal.unary_operation-returns-in_default-clause-parses
unary_operation-returns-in_default-clause-parses g t c =
    absurd (c.in_default.ensures.takes.1 (sign_is_token _ (sym (ap is_sign c.requires.comes) ∙ c.requires.operator)))

pub unary_operation-returns-in_err-operand-clause-parses : goal.unary_operation-returns-in_err-operand-clause-parses
unary_operation-returns-in_err-operand-clause-parses g t c =
    exits _ _ _ _ _ _ _ c.from_residual.ensures.1 (signed_fails c.in-Some.ensures.takes.1 (sym (ap is_sign c.requires.comes) ∙ c.requires.operator)
    c.in_err-operand.ensures.parses)

pub unary_operation-returns-in_err-with_operator-clause-parses : goal.unary_operation-returns-in_err-with_operator-clause-parses
unary_operation-returns-in_err-with_operator-clause-parses g t c = exits _ _ _ _ _ _ _ c.from_residual-in_err-with_operator.ensures.1
    (signed_wants c.in-Some.ensures.takes.1 (sym (ap is_sign c.requires.comes) ∙ c.requires.operator) c.in_ok-operand.ensures.parses)

pub unary_operation-returns-clause-parses : goal.unary_operation-returns-clause-parses
unary_operation-returns-clause-parses g t c =
    signed_found c.in-Some.ensures.takes.1 (sym (ap is_sign c.requires.comes) ∙ c.requires.operator) c.in_ok-operand.operand c.in_ok-with_operator.field-0
    c.in_ok-operand.ensures.parses
    (c.in_ok-with_operator.ensures.means ∙ ap (λ l. after_operator l (span_of c.new.result) (expression_of c.in_ok-operand.operand)) c.requires.comes
    ∙ ap (λ s. after_operator (look_at (at c.args.cursor.now).sight).kind s (expression_of c.in_ok-operand.operand))
    (same_spans (ap (λ (p : Pos). p.byte) c.new.ensures.begin ∙ c.begin-begin.ensures) (ap (λ (p : Pos). p.byte) c.new.ensures.end)))
