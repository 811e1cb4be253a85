use Rattle.std.proofs.Common.{◌∷◌, [], ◌++◌, map, ap, sym, ◌∙◌}
use Rattle.std.specs.List.{flat_map}
use Rattle.starlark_tree.specs.Parts.{argument_expression}
use Rattle.starlark_tree.specs.Places.{children, clause_exprs, exprs_in_parameter, for_exprs, maybe_exprs}
use Rattle.starlark_tree.specs.Views.{clause_seen, expression_of, for_in_of, maybe_of}
use Rattle.starlark_validate.proofs.AddedExpressions.{then, at_places}
use Rattle.starlark_tree.proofs.Nodes.{tuple_children, list_children, fstring_children, call_children, slice_children, lambda_children, dict_children}
use Rattle.starlark_tree.proofs.Nodes.{list_comprehension_children, dict_comprehension_children}
use Rattle.starlark_validate.proofs.children.add_children.Goals as goal

pub returns-in-Tuple : goal.returns-in-Tuple
returns-in-Tuple c =
    at_places (ap (map expression_of) c.deref.ensures.value ∙ sym (ap children c.in-Tuple.is ∙ tuple_children c.in-Tuple.items)) c.add_each.ensures

pub returns-in_ok-add_one-in-Call : goal.returns-in_ok-add_one-in-Call
returns-in_ok-add_one-in-Call c =
    at_places
    (ap (λ b. expression_of b ∷ map (λ a. expression_of (argument_expression a.node)) c.deref-in-Call-2.result.now) c.deref-in-Call.ensures
    ∙ ap (λ v. expression_of c.in-Call.callee.value ∷ map (λ a. expression_of (argument_expression a.node)) v) c.deref-in-Call-2.ensures.value
    ∙ sym (ap children c.in-Call.is ∙ call_children c.in-Call.callee c.in-Call.args))
    (then (rw c.in_ok-add_one-in-Call.was at c.add_one-in-Call.ensures) c.add_arguments.ensures)

pub returns-in-Index2 : goal.returns-in-Index2
returns-in-Index2 c =
    at_places
    (ap (λ p. expression_of p.0 ∷ expression_of c.deref-in-Index2-2.result.now.1 ∷ expression_of c.deref-in-Index2-3.result.now.2 ∷ [])
    c.deref-in-Index2.ensures
    ∙ ap (λ p. expression_of c.in-Index2.parts.value.0 ∷ expression_of p.1 ∷ expression_of c.deref-in-Index2-3.result.now.2 ∷ []) c.deref-in-Index2-2.ensures
    ∙ ap (λ p. expression_of c.in-Index2.parts.value.0 ∷ expression_of c.in-Index2.parts.value.1 ∷ expression_of p.2 ∷ []) c.deref-in-Index2-3.ensures
    ∙ sym (ap children c.in-Index2.is))
    c.add_three.ensures

pub returns-in_ok-add_one-in-Slice : goal.returns-in_ok-add_one-in-Slice
returns-in_ok-add_one-in-Slice c =
    at_places
    (ap (λ b. expression_of b ∷ (maybe_exprs (maybe_of c.in-Slice.start)
    ++ (maybe_exprs (maybe_of c.in-Slice.stop) ++ maybe_exprs (maybe_of c.in-Slice.step)))) c.deref-in-Slice.ensures
    ∙ sym (ap children c.in-Slice.is ∙ slice_children c.in-Slice.array c.in-Slice.start c.in-Slice.stop c.in-Slice.step))
    (then (rw c.in_ok-add_one-in-Slice.was at c.add_one-in-Slice.ensures) c.add_bounds.ensures)

pub returns-in_ok-add_parameters-in-Lambda : goal.returns-in_ok-add_parameters-in-Lambda
returns-in_ok-add_parameters-in-Lambda c =
    at_places
    (ap (λ v. flat_map (λ p. exprs_in_parameter p.node) v ++ expression_of c.deref-in-Lambda-2.result.now ∷ []) c.deref-in-Lambda.ensures.value
    ∙ ap (λ b. flat_map (λ p. exprs_in_parameter p.node) c.in-Lambda.lambda.params.items ++ expression_of b ∷ []) c.deref-in-Lambda-2.ensures
    ∙ sym (ap children c.in-Lambda.is ∙ lambda_children c.in-Lambda.lambda))
    (then (rw c.in_ok-add_parameters-in-Lambda.was at c.add_parameters.ensures) c.add_one-in-Lambda.ensures)

pub returns-in-If : goal.returns-in-If
returns-in-If c =
    at_places
    (ap (λ p. expression_of p.0 ∷ expression_of c.deref-in-If-2.result.now.1 ∷ expression_of c.deref-in-If-3.result.now.2 ∷ []) c.deref-in-If.ensures
    ∙ ap (λ p. expression_of c.in-If.parts.value.0 ∷ expression_of p.1 ∷ expression_of c.deref-in-If-3.result.now.2 ∷ []) c.deref-in-If-2.ensures
    ∙ ap (λ p. expression_of c.in-If.parts.value.0 ∷ expression_of c.in-If.parts.value.1 ∷ expression_of p.2 ∷ []) c.deref-in-If-3.ensures
    ∙ sym (ap children c.in-If.is))
    c.add_three-in-If.ensures

pub returns-in-List : goal.returns-in-List
returns-in-List c =
    at_places (ap (map expression_of) c.deref-in-List.ensures.value ∙ sym (ap children c.in-List.is ∙ list_children c.in-List.items)) c.add_each-in-List.ensures

pub returns-in-Dict : goal.returns-in-Dict
returns-in-Dict c =
    at_places
    (ap (flat_map (λ p. expression_of p.0 ∷ expression_of p.1 ∷ [])) c.deref-in-Dict.ensures.value
    ∙ sym (ap children c.in-Dict.is ∙ dict_children c.in-Dict.pairs))
    c.add_pairs.ensures

pub returns-in_ok-add_clauses-in-ListComprehension : goal.returns-in_ok-add_clauses-in-ListComprehension
returns-in_ok-add_clauses-in-ListComprehension c =
    at_places
    (ap (λ f. (for_exprs (for_in_of f) ++ flat_map (λ k. clause_exprs (clause_seen k)) c.deref-in-ListComprehension-2.result.now)
    ++ expression_of c.deref-in-ListComprehension-3.result.now ∷ []) c.deref-in-ListComprehension.ensures
    ∙ ap (λ v. (for_exprs (for_in_of c.in-ListComprehension.first.value) ++ flat_map (λ k. clause_exprs (clause_seen k)) v)
    ++ expression_of c.deref-in-ListComprehension-3.result.now ∷ []) c.deref-in-ListComprehension-2.ensures.value
    ∙ ap (λ b. (for_exprs (for_in_of c.in-ListComprehension.first.value) ++ flat_map (λ k. clause_exprs (clause_seen k)) c.in-ListComprehension.others.items)
    ++ expression_of b ∷ []) c.deref-in-ListComprehension-3.ensures
    ∙ sym (ap children c.in-ListComprehension.is ∙ list_comprehension_children c.in-ListComprehension.element c.in-ListComprehension.first
    c.in-ListComprehension.others))
    (then (rw c.in_ok-add_clauses-in-ListComprehension.was at c.add_clauses.ensures) c.add_one-in-ListComprehension.ensures)

pub returns-in_ok-add_clauses-in-DictComprehension : goal.returns-in_ok-add_clauses-in-DictComprehension
returns-in_ok-add_clauses-in-DictComprehension c =
    at_places
    (ap (λ f. (for_exprs (for_in_of f) ++ flat_map (λ k. clause_exprs (clause_seen k)) c.deref-in-DictComprehension-2.result.now)
    ++ expression_of c.deref-in-DictComprehension-3.result.now.0 ∷ expression_of c.deref-in-DictComprehension-4.result.now.1 ∷ [])
    c.deref-in-DictComprehension.ensures
    ∙ ap (λ v. (for_exprs (for_in_of c.in-DictComprehension.first.value) ++ flat_map (λ k. clause_exprs (clause_seen k)) v)
    ++ expression_of c.deref-in-DictComprehension-3.result.now.0 ∷ expression_of c.deref-in-DictComprehension-4.result.now.1 ∷ [])
    c.deref-in-DictComprehension-2.ensures.value
    ∙ ap (λ p. (for_exprs (for_in_of c.in-DictComprehension.first.value) ++ flat_map (λ k. clause_exprs (clause_seen k)) c.in-DictComprehension.others.items)
    ++ expression_of p.0 ∷ expression_of c.deref-in-DictComprehension-4.result.now.1 ∷ []) c.deref-in-DictComprehension-3.ensures
    ∙ ap (λ p. (for_exprs (for_in_of c.in-DictComprehension.first.value) ++ flat_map (λ k. clause_exprs (clause_seen k)) c.in-DictComprehension.others.items)
    ++ expression_of c.in-DictComprehension.pair.value.0 ∷ expression_of p.1 ∷ []) c.deref-in-DictComprehension-4.ensures
    ∙ sym (ap children c.in-DictComprehension.is ∙ dict_comprehension_children c.in-DictComprehension.pair c.in-DictComprehension.first
    c.in-DictComprehension.others))
    (then (rw c.in_ok-add_clauses-in-DictComprehension.was at c.add_clauses-in-DictComprehension.ensures) c.add_two-in-DictComprehension.ensures)

pub returns-in-FString : goal.returns-in-FString
returns-in-FString c =
    at_places (ap (map expression_of) c.deref-in-FString.ensures.value ∙ sym (ap children c.in-FString.is ∙ fstring_children c.in-FString.f_string))
    c.add_each-in-FString.ensures
