use Rattle.std.proofs.Common.{ap, sym}
use Rattle.starlark_spec.specs.Types as types
use Rattle.starlark_checks.specs.TypeViews.{form_seen, row_seen}
use Rattle.starlark_checks.specs.declared.type_expr.TypeExprUnpackP as unpacked
use Rattle.starlark_checks.proofs.AnswerLemmas.{answers_err, answers_ok}
use Rattle.starlark_checks.proofs.TypeRows.{forms_seen_of}
use Rattle.starlark_checks.proofs.type_expr.made.union.Goals as goal

pub returns-in_err-members : goal.returns-in_err-members
returns-in_err-members g c = answers_err types.Union row_seen form_seen _ _ _ c.in_err-members.was c.from_residual.ensures.1

pub returns : goal.returns
returns g c =
    let v = c.in_ok-members.field-0 in
    answers_ok types.Union row_seen form_seen _ v (unpacked.Union v) c.in_ok-members.was (ap types.Union (sym (forms_seen_of v)))
