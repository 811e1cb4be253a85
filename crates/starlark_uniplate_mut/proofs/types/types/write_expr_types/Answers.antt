use denote.Param.{param}
use denote.Enum.Declared.{Record}
use borrow.Enum.Known.{ValuesAt}
use Rattle.std.proofs.Common.{refl, sym, ap, ◌∙◌}
use Rattle.std.specs.List.{flat_map}
use Rattle.std.specs.Vec.{with_items}
use Rattle.starlark_lexer.specs.Tokens.{span_of}
use Rattle.starlark_tree.specs.Ast.{expression}
use Rattle.starlark_tree.specs.contracts.ast.ExprP.{enum}
use Rattle.starlark_tree.specs.declared.ast.ExprP
use Rattle.starlark_tree.specs.Views.{expression_of, shape_seen}
use Rattle.starlark_tree.specs.Walks.{WritesIn}
use Rattle.starlark_tree.proofs.LentParts.{left_in}
use Rattle.starlark_tree.proofs.WalkConversions.{may_at}
use Rattle.starlark_uniplate.specs.Types.{expr_types, types_in_parameter}
use Rattle.starlark_uniplate_mut.specs.Types.Types.{type_calls, untyped}
use Rattle.starlark_uniplate_mut.proofs.TypesLemmas.ParameterTypes.{lambda_types, lambda_written, no_lambda}
use Rattle.starlark_uniplate_mut.proofs.TypesLemmas.TypeEnters.{no_types}
use Rattle.starlark_uniplate_mut.proofs.types.types.write_expr_types.Given as given
use Rattle.starlark_uniplate_mut.proofs.types.types.write_expr_types.Goals as goal

abbrev exprs : given.Over → Record
exprs g = enum (param 0 g.row.P) (param 3 g.row.P-LoadPayload) (param 4 g.row.P-IdentPayload) (param 5 g.row.P-IdentAssignPayload) (param 6 g.row.P-DefPayload)
    (param 7 g.row.P-TypeExprPayload)

pub write_parameter_types-requires : goal.write_parameter_types-requires
write_parameter_types-requires g c =
    may_at
    (ap (λ n. expr_types (expression (span_of c.args.expr.now.span) (shape_seen n))) c.in-Lambda.is
    ∙ lambda_types (span_of c.args.expr.now.span) c.in-Lambda.lambda
    ∙ sym (ap (flat_map (λ p. types_in_parameter p.node)) (c.deref_mut.ensures.value ∙ ap (λ l. l.params.items) c.in-Lambda.lambda-is)))
    c.requires

pub returns-in-Lambda : goal.returns-in-Lambda
returns-in-Lambda g c =
    let v : ValuesAt (exprs g).parts 7 = (c.in-Lambda.lambda, tt) in
    left_in (exprs g) 7 (λ v y. ExprP.Lambda y) (λ v. v.0) (λ l. record l { params = with_items l.params c.write_parameter_types.new.parameters })
    (λ n. WritesIn (λ e. expr_types (expression_of e)) (λ e. untyped (expression_of e)) (type_calls g.F.FnMut) c.args.f.now c.args.expr.now
    (record c.args.expr.now { node = n }) c.write_parameter_types.result c.write_parameter_types.new.f)
    c.args.expr.now.node v c.in-Lambda.is
    (lambda_written c.args.expr.now c.in-Lambda.lambda c.deref_mut.result.now c.write_parameter_types.new.parameters c.in-Lambda.is (c.deref_mut.ensures.value
    ∙ ap (λ l. l.params.items) c.in-Lambda.lambda-is) c.write_parameter_types.ensures)

pub returns-in_default : goal.returns-in_default
returns-in_default g c =
    let none = no_types (type_calls g.F.FnMut) {f = c.args.f.now} (expression_of c.args.expr.now)
    (no_lambda (span_of c.args.expr.now.span) c.args.expr.now.node c.in_default.not-Lambda) in
    record { calls = none.calls; rest = refl }
