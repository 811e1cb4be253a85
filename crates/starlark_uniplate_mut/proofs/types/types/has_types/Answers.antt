use Rattle.std.proofs.Common.{sym, ap, ◌∙◌}
use Rattle.std.specs.List.{flat_map}
use Rattle.starlark_lexer.specs.Tokens.{span_of}
use Rattle.starlark_tree.specs.Ast.{expression}
use Rattle.starlark_tree.specs.Views.{shape_seen}
use Rattle.starlark_uniplate.specs.Types.{expr_types, types_in_parameter}
use Rattle.starlark_uniplate_mut.proofs.TypesLemmas.ParameterTypes.{lambda_types}
use Rattle.starlark_uniplate_mut.proofs.types.types.has_types.Goals as goal

pub returns-in-Lambda-clause-some : goal.returns-in-Lambda-clause-some
returns-in-Lambda-clause-some g c =
    λ e. rw
    (ap (λ n. expr_types (expression (span_of c.args.expr.now.span) (shape_seen n))) c.in-Lambda.is
    ∙ lambda_types (span_of c.args.expr.now.span) c.in-Lambda.lambda
    ∙ sym (ap (flat_map (λ p. types_in_parameter p.node)) c.deref.ensures.value))
    (c.are_typed.ensures.some e)

pub returns-in-Lambda-clause-none : goal.returns-in-Lambda-clause-none
returns-in-Lambda-clause-none g c =
    λ e. ap (λ n. expr_types (expression (span_of c.args.expr.now.span) (shape_seen n))) c.in-Lambda.is
    ∙ lambda_types (span_of c.args.expr.now.span) c.in-Lambda.lambda
    ∙ sym (ap (flat_map (λ p. types_in_parameter p.node)) c.deref.ensures.value)
    ∙ c.are_typed.ensures.none e
