use Rattle.starlark_spec.specs.Types as types
use Rattle.starlark_checks.specs.TypeViews.{row_seen, type_seen}
use Rattle.starlark_checks.proofs.AnswerLemmas.{answers_err, answers_ok}
use Rattle.starlark_checks.proofs.TypeRows.{row_more}
use Rattle.starlark_checks.proofs.type_expr.made.with.Goals as goal

pub returns-in_err-part : goal.returns-in_err-part
returns-in_err-part g c = answers_err (λ r. types.append (row_seen c.args.parts) (types.readings_with r types.no_readings)) type_seen row_seen _ _ _
    c.in_err-part.was c.from_residual.ensures.1

pub returns : goal.returns
returns g c =
    answers_ok (λ r. types.append (row_seen c.args.parts) (types.readings_with r types.no_readings)) type_seen row_seen _ c.in_ok-part.field-0 _
    c.in_ok-part.was
    (row_more c.args.parts.items c.in_ok-part.field-0 _ c.in_ok-push.ensures.items)
