use Rattle.starlark_spec.specs.Types as types
use Rattle.starlark_checks.specs.TypeViews.{form_seen, name_seen, type_seen}
use Rattle.starlark_checks.proofs.AnswerLemmas.{answers_err}
use Rattle.starlark_checks.proofs.type_expr.made.index_by_one.Goals as goal

pub returns-in_err-index : goal.returns-in_err-index
returns-in_err-index g c = answers_err (types.Index (name_seen c.args.name.now)) type_seen form_seen _ _ _ c.in_err-index.was c.from_residual.ensures.1
