use Rattle.std.proofs.Common.{refl, ap, ◌∙◌, arith}
use Rattle.starlark_lexer.specs.declared.span.Pos.{Pos}
use Rattle.starlark_parse_cursor.proofs.Paths.{exits}
use Rattle.starlark_parse.proofs.ExprLemmas.Lambdas.{parameters_fail, no_colon as no_body, body_fails, lambda_found, lambda_is, lambda_wants}
use Rattle.starlark_parse.proofs.expr.test.after_lambda.Goals as goal

pub returns-in_err-parameters-clause-parses :
    goal.returns-in_err-parameters-clause-parses
returns-in_err-parameters-clause-parses g c = exits _ _ _ _ _ _ _ c.from_residual.ensures.1 (parameters_fail _ c.in_err-parameters.ensures.parses)

pub returns-in_err-expect-clause-parses : goal.returns-in_err-expect-clause-parses
returns-in_err-expect-clause-parses g c = exits _ _ _ _ _ _ _ c.from_residual-in_err-expect.ensures.1
    (no_body _ c.in_ok-parameters.ensures.parses c.in_err-expect.ensures.expects)

pub returns-in_err-body-clause-parses :
    goal.returns-in_err-body-clause-parses
returns-in_err-body-clause-parses g c =
    exits _ _ _ _ _ _ _ c.from_residual-in_err-body.ensures.1 (body_fails _ c.in_ok-parameters.ensures.parses c.in_ok-expect.ensures.expects
    c.in_err-body.ensures.parses)

pub returns-in_err-lambda-clause-parses :
    goal.returns-in_err-lambda-clause-parses
returns-in_err-lambda-clause-parses g c = exits _ _ _ _ _ _ _ c.from_residual-in_err-lambda.ensures.1
    (lambda_wants _ c.in_ok-parameters.ensures.parses c.in_ok-expect.ensures.expects c.in_ok-body.ensures.parses)

pub returns-clause-parses : goal.returns-clause-parses
returns-clause-parses g c =
    lambda_found _ c.in_ok-parameters.ensures.parses c.in_ok-expect.ensures.expects c.in_ok-body.body c.in_ok-lambda.field-0 c.in_ok-body.ensures.parses
    (lambda_is c.in_ok-lambda.ensures.means (ap (λ (p : Pos). p.byte) c.begin.ensures) refl)

pub returns-clause-moves : goal.returns-clause-moves
returns-clause-moves g c = record {
  same_reference = c.in_ok-body.ensures.moves.same_reference ∙ c.in_ok-expect.ensures.moves.same_reference ∙ c.in_ok-parameters.ensures.moves.same_reference;
  ready = c.in_ok-body.ensures.moves.ready;
  fewer = omega (arith, c.in_ok-parameters.ensures.moves.fewer, c.in_ok-expect.ensures.moves.fewer, c.in_ok-body.ensures.moves.fewer);
  later = omega (
    arith,
    c.in_ok-parameters.ensures.onward,
    c.in_ok-expect.ensures.moves.later,
    c.in_ok-expect.ensures.moves.ready.later,
    c.in_ok-body.ensures.moves.later,
  );
}
