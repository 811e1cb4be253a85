use Rattle.starlark_spec.specs.Types as types
use Rattle.starlark_checks.specs.TypeViews.{row_seen}
use Rattle.starlark_checks.proofs.AnswerLemmas.{answers_ok}
use Rattle.starlark_checks.proofs.TypeRows.{rows_joined}
use Rattle.starlark_checks.proofs.type_expr.made.joined.Goals as goal

pub returns : goal.returns
returns g c =
    answers_ok (types.append (row_seen c.args.left)) row_seen row_seen _ c.in_ok-right.field-0 _ c.in_ok-right.was
    (rows_joined c.args.left.items c.in_ok-right.field-0.items _ c.in_ok-append.ensures.items)
