use Rattle.starlark_spec.specs.Types as types
use Rattle.starlark_checks.specs.TypeViews.{form_seen, path_seen}
use Rattle.starlark_checks.proofs.AnswerLemmas.{answers_err}
use Rattle.starlark_checks.proofs.type_expr.made.path_type.Goals as goal

pub returns-in_err-path : goal.returns-in_err-path
returns-in_err-path g c = answers_err types.PathType path_seen form_seen _ _ _ c.in_err-path.was c.from_residual.ensures.1
