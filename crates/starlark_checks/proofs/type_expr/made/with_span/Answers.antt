use Rattle.starlark_lexer.specs.Tokens.{span_of}
use Rattle.starlark_spec.specs.Types as types
use Rattle.starlark_checks.specs.TypeViews.{form_seen, type_seen}
use Rattle.starlark_checks.proofs.AnswerLemmas.{answers_err}
use Rattle.starlark_checks.proofs.type_expr.made.with_span.Goals as goal

pub returns-in_err-form : goal.returns-in_err-form
returns-in_err-form g c = answers_err (types.reads (span_of c.args.span)) form_seen type_seen _ _ _ c.in_err-form.was c.from_residual.ensures.1
