use Rattle.std.proofs.Common.{◌∷◌, [], ◌++◌, ap, sym, ◌∙◌}
use Rattle.std.specs.List.{flat_map}
use Rattle.starlark_tree.specs.Places.{clause_exprs, for_exprs}
use Rattle.starlark_tree.specs.Views.{clause_seen, expression_of, for_in_of, shape_seen}
use Rattle.starlark_validate.specs.Walks.InText.{children_in_text}
use Rattle.starlark_validate.proofs.AddedExpressions.{then, at_places}
use Rattle.starlark_validate.proofs.ChildOrder.{same_in_text}
use Rattle.starlark_tree.proofs.Nodes.{clauses_of_row}
use Rattle.starlark_validate.proofs.children.add_children_in_text.Goals as goal

pub returns-in-If : goal.returns-in-If
returns-in-If c =
    at_places
    (ap (λ p. expression_of p.1 ∷ expression_of c.deref-in-If.result.now.0 ∷ expression_of c.deref-in-If-2.result.now.2 ∷ []) c.deref.ensures
    ∙ ap (λ p. expression_of c.in-If.parts.value.1 ∷ expression_of p.0 ∷ expression_of c.deref-in-If-2.result.now.2 ∷ []) c.deref-in-If.ensures
    ∙ ap (λ p. expression_of c.in-If.parts.value.1 ∷ expression_of c.in-If.parts.value.0 ∷ expression_of p.2 ∷ []) c.deref-in-If-2.ensures
    ∙ sym (ap (λ e. children_in_text (shape_seen e)) c.in-If.is))
    c.add_three.ensures

pub returns-in_ok-add_one-in-ListComprehension : goal.returns-in_ok-add_one-in-ListComprehension
returns-in_ok-add_one-in-ListComprehension c =
    at_places
    (ap (λ b. expression_of b ∷ (for_exprs (for_in_of c.deref-in-ListComprehension-2.result.now) ++ flat_map (λ k. clause_exprs (clause_seen k))
    c.deref-in-ListComprehension-3.result.now)) c.deref-in-ListComprehension.ensures
    ∙ ap (λ f. expression_of c.in-ListComprehension.element.value ∷
    (for_exprs (for_in_of f) ++ flat_map (λ k. clause_exprs (clause_seen k)) c.deref-in-ListComprehension-3.result.now))
    c.deref-in-ListComprehension-2.ensures
    ∙ ap (λ v. expression_of c.in-ListComprehension.element.value ∷ (for_exprs (for_in_of c.in-ListComprehension.first.value)
    ++ flat_map (λ k. clause_exprs (clause_seen k)) v)) c.deref-in-ListComprehension-3.ensures.value
    ∙ ap (λ ys. expression_of c.in-ListComprehension.element.value ∷ (for_exprs (for_in_of c.in-ListComprehension.first.value) ++ ys))
    (sym (clauses_of_row c.in-ListComprehension.others))
    ∙ sym (ap (λ e. children_in_text (shape_seen e)) c.in-ListComprehension.is))
    (then (rw c.in_ok-add_one-in-ListComprehension.was at c.add_one.ensures) c.add_clauses.ensures)

pub returns-in_ok-add_two-in-DictComprehension : goal.returns-in_ok-add_two-in-DictComprehension
returns-in_ok-add_two-in-DictComprehension c =
    at_places
    (ap (λ p. expression_of p.0 ∷ expression_of c.deref-in-DictComprehension-2.result.now.1 ∷ (for_exprs (for_in_of c.deref-in-DictComprehension-3.result.now)
    ++ flat_map (λ k. clause_exprs (clause_seen k)) c.deref-in-DictComprehension-4.result.now)) c.deref-in-DictComprehension.ensures
    ∙ ap (λ p. expression_of c.in-DictComprehension.pair.value.0 ∷ expression_of p.1 ∷ (for_exprs (for_in_of c.deref-in-DictComprehension-3.result.now)
    ++ flat_map (λ k. clause_exprs (clause_seen k)) c.deref-in-DictComprehension-4.result.now)) c.deref-in-DictComprehension-2.ensures
    ∙ ap (λ f. expression_of c.in-DictComprehension.pair.value.0 ∷ expression_of c.in-DictComprehension.pair.value.1 ∷
    (for_exprs (for_in_of f) ++ flat_map (λ k. clause_exprs (clause_seen k)) c.deref-in-DictComprehension-4.result.now))
    c.deref-in-DictComprehension-3.ensures
    ∙ ap (λ v. expression_of c.in-DictComprehension.pair.value.0 ∷ expression_of c.in-DictComprehension.pair.value.1 ∷
    (for_exprs (for_in_of c.in-DictComprehension.first.value) ++ flat_map (λ k. clause_exprs (clause_seen k)) v))
    c.deref-in-DictComprehension-4.ensures.value
    ∙ ap (λ ys. expression_of c.in-DictComprehension.pair.value.0 ∷ expression_of c.in-DictComprehension.pair.value.1 ∷
    (for_exprs (for_in_of c.in-DictComprehension.first.value) ++ ys)) (sym (clauses_of_row c.in-DictComprehension.others))
    ∙ sym (ap (λ e. children_in_text (shape_seen e)) c.in-DictComprehension.is))
    (then (rw c.in_ok-add_two-in-DictComprehension.was at c.add_two.ensures) c.add_clauses-in-DictComprehension.ensures)

pub returns-in_default : goal.returns-in_default
returns-in_default c =
    at_places (same_in_text c.args.expr.now c.in_default.not-If c.in_default.not-ListComprehension c.in_default.not-DictComprehension) c.add_children.ensures
