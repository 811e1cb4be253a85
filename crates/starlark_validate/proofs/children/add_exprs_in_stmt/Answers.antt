use Rattle.std.proofs.Common.{◌∷◌, [], ◌++◌, ap, sym, ◌∙◌}
use Rattle.std.specs.List.{flat_map}
use Rattle.starlark_lexer.specs.Tokens.{span_of}
use Rattle.starlark_tree.specs.Places.{exprs_in_parameter, target_exprs, type_exprs}
use Rattle.starlark_tree.specs.Views.{boxed_type_of, expression_of, form_seen, maybe_type_of, target_of}
use Rattle.starlark_validate.specs.Walks.InText.{form_exprs}
use Rattle.starlark_validate.proofs.AddedExpressions.{then, at_places}
use Rattle.starlark_tree.proofs.Nodes.{anywhere, parameters_in}
use Rattle.starlark_validate.proofs.children.add_exprs_in_stmt.Goals as goal

pub returns-in_ok-add_annotation-in-Assign : goal.returns-in_ok-add_annotation-in-Assign
returns-in_ok-add_annotation-in-Assign c =
    at_places
    (ap (λ ys. ys ++ (type_exprs (maybe_type_of c.in-Assign.assign.ty) ++ expression_of c.in-Assign.assign.rhs ∷ []))
    (sym (anywhere (span_of c.in-Assign.assign.lhs.span) c.in-Assign.assign.lhs.node))
    ∙ sym (ap (λ s. form_exprs (form_seen s)) c.in-Assign.is))
    (then (rw c.in_ok-add_target-in-Assign.was at c.add_target.ensures)
    (then (rw c.in_ok-add_annotation-in-Assign.was at c.add_annotation.ensures) c.add_one-in-Assign.ensures))

pub returns-in_ok-add_target-in-AssignModify : goal.returns-in_ok-add_target-in-AssignModify
returns-in_ok-add_target-in-AssignModify c =
    at_places
    (ap (λ ys. ys ++ expression_of c.deref.result.now ∷ []) (sym (anywhere (span_of c.in-AssignModify.target.span) c.in-AssignModify.target.node))
    ∙ ap (λ e. target_exprs (target_of c.in-AssignModify.target) ++ expression_of e ∷ []) c.deref.ensures
    ∙ sym (ap (λ s. form_exprs (form_seen s)) c.in-AssignModify.is))
    (then (rw c.in_ok-add_target-in-AssignModify.was at c.add_target-in-AssignModify.ensures) c.add_one-in-AssignModify.ensures)

pub returns-in_ok-add_target-in-For : goal.returns-in_ok-add_target-in-For
returns-in_ok-add_target-in-For c =
    at_places
    (ap (λ ys. ys ++ expression_of c.in-For.repeated.over ∷ []) (sym (anywhere (span_of c.in-For.repeated.var.span) c.in-For.repeated.var.node))
    ∙ sym (ap (λ s. form_exprs (form_seen s)) c.in-For.is))
    (then (rw c.in_ok-add_target-in-For.was at c.add_target-in-For.ensures) c.add_one-in-For.ensures)

pub returns-in_ok-add_parameters-in-Def : goal.returns-in_ok-add_parameters-in-Def
returns-in_ok-add_parameters-in-Def c =
    at_places
    (ap (λ v. flat_map (λ p. exprs_in_parameter p.node) v ++ type_exprs (boxed_type_of c.in-Def.def.return_type)) c.deref-in-Def.ensures.value
    ∙ ap (λ ys. ys ++ type_exprs (boxed_type_of c.in-Def.def.return_type)) (sym (parameters_in c.in-Def.def.params.items))
    ∙ sym (ap (λ s. form_exprs (form_seen s)) c.in-Def.is))
    (then (rw c.in_ok-add_parameters-in-Def.was at c.add_parameters.ensures) c.add_type.ensures)
