use Rattle.std.proofs.Common.{ap, sym}
use Rattle.starlark_spec.specs.Types as types
use Rattle.starlark_checks.specs.TypeViews.{form_seen, row_seen}
use Rattle.starlark_checks.specs.declared.type_expr.TypeExprUnpackP as unpacked
use Rattle.starlark_checks.proofs.AnswerLemmas.{answers_err, answers_ok}
use Rattle.starlark_checks.proofs.TypeRows.{forms_seen_of}
use Rattle.starlark_checks.proofs.type_expr.made.type_list.Goals as goal

pub returns-in_err-parts : goal.returns-in_err-parts
returns-in_err-parts g c = answers_err types.List row_seen form_seen _ _ _ c.in_err-parts.was c.from_residual.ensures.1

pub returns : goal.returns
returns g c =
    let v = c.in_ok-parts.field-0 in
    answers_ok types.List row_seen form_seen _ v (unpacked.List v) c.in_ok-parts.was (ap types.List (sym (forms_seen_of v)))
