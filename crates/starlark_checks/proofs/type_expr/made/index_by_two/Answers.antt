use Rattle.starlark_lexer.specs.Tokens.{span_of}
use Rattle.starlark_spec.specs.Types as types
use Rattle.starlark_checks.specs.TypeViews.{form_seen, path_seen, type_seen}
use Rattle.starlark_checks.proofs.AnswerLemmas.{first_err, second_err}
use Rattle.starlark_checks.proofs.type_expr.made.index_by_two.Goals as goal

pub returns-in_err-first : goal.returns-in_err-first
returns-in_err-first g c =
    first_err (types.Index2 (span_of c.args.path.span) (path_seen c.args.path.node)) type_seen form_seen _ _ _ _ c.in_err-first.was c.from_residual.ensures.1

pub returns-in_err-second : goal.returns-in_err-second
returns-in_err-second g c =
    second_err (types.Index2 (span_of c.args.path.span) (path_seen c.args.path.node)) type_seen form_seen _ _ _ _ _ c.in_ok-first.was c.in_err-second.was
    c.from_residual-in_err-second.ensures.1
