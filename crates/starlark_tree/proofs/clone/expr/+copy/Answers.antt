use Rattle.std.proofs.Common.{refl}
use Rattle.starlark_lexer.specs.Tokens.{span_of}
use Rattle.starlark_tree.specs.Clones.{ClonesParameter, ClonesShape, ClonesTarget, cloning}
use Rattle.starlark_tree.specs.Parts.{argument_expression}
use Rattle.starlark_tree.specs.Views.{parameter_seen, shape_seen, target_seen}
use Rattle.starlark_tree.specs.declared.ast.ExprP as e
use Rattle.starlark_tree.proofs.Clones.{expressions_cloned, pairs_cloned, targets_cloned}
use Rattle.starlark_tree.proofs.Copies.{alike_at, at_place, beside, first_alike, follow, follows, of_one, of_one_part, of_same, second_alike}
use Rattle.starlark_tree.proofs.Copies.{one_more_alike, one_more_made, one_more_of, one_more_pair}
use Rattle.starlark_tree.proofs.Copies.{argument_smaller, attribute_cloned, call_cloned, slice_cloned, operation_cloned, list_comprehension_cloned}
use Rattle.starlark_tree.proofs.Copies.{dict_comprehension_cloned, constant_cloned, pair_smaller, whole}
use Rattle.starlark_tree.proofs.clone.expr.+copy.Goals as goal

pub clone_arguments-loop-item-preserved : goal.clone_arguments-loop-item-preserved
clone_arguments-loop-item-preserved g t c =
    let R = cloning g.P.LoadPayload.Clone.is_clone g.P.IdentPayload.Clone.is_clone g.P.IdentAssignPayload.Clone.is_clone g.P.DefPayload.Clone.is_clone
    g.P.TypeExprPayload.Clone.is_clone in
    one_more_of _ (λ v. ClonesShape R (shape_seen (argument_expression c.item-item.result.node).node) (shape_seen v)) c.deref-item-items.result.now
    c.loop-item.copies.items _ c.loop-item.item-index c.item-item.result c.clone_expr.result c.loop-item-test.true c.item-item.is
    c.loop-item.invariant c.in_ok-copies-2.ensures (rw c.expr.ensures at c.clone_expr.ensures)

pub clone_arguments-clone_expr-requires : goal.clone_arguments-clone_expr-requires
clone_arguments-clone_expr-requires g t c κs within = (
  argument_smaller c.deref-item-items.result.now c.args.items.now.items c.loop-item.item-index c.item-item.result c.expr.result.now t
      c.loop-item-test.true c.item-item.is c.deref-item-items.ensures.value c.expr.ensures c.decreases,
  within,
)

pub clone_arguments-returns : goal.clone_arguments-returns
clone_arguments-returns g t c =
    whole _ c.deref-item-items.result.now _ _ c.loop-item.item-index c.loop-item-test.false c.deref-item-items.ensures.value c.loop-item.invariant

pub clone_parameters-loop-item-preserved : goal.clone_parameters-loop-item-preserved
clone_parameters-loop-item-preserved g t c =
    one_more_made _ c.deref-item-items.result.now c.loop-item.copies.items _ c.loop-item.item-index c.item-item.result _ c.loop-item-test.true c.item-item.is
    c.loop-item.invariant c.in_ok-push_made.ensures
    (alike_at (λ s n. ClonesParameter (cloning g.P.LoadPayload.Clone.is_clone g.P.IdentPayload.Clone.is_clone g.P.IdentAssignPayload.Clone.is_clone
    g.P.DefPayload.Clone.is_clone g.P.TypeExprPayload.Clone.is_clone) (parameter_seen (span_of c.item-item.result.span) c.item-item.result.node)
    (parameter_seen s n)) c.item-item.result.span _ _ c.spanned_like.ensures.node c.spanned_like.ensures.span
    (at_place (λ s n. ClonesParameter (cloning g.P.LoadPayload.Clone.is_clone g.P.IdentPayload.Clone.is_clone g.P.IdentAssignPayload.Clone.is_clone
    g.P.DefPayload.Clone.is_clone g.P.TypeExprPayload.Clone.is_clone) (parameter_seen s c.item-item.result.node) (parameter_seen s n)) _
    (span_of c.item-item.result.span) c.clone_parameter.ensures))

pub clone_parameters-returns : goal.clone_parameters-returns
clone_parameters-returns g t c =
    whole _ c.deref-item-items.result.now _ _ c.loop-item.item-index c.loop-item-test.false c.deref-item-items.ensures.value c.loop-item.invariant

pub clone_targets-loop-item-preserved : goal.clone_targets-loop-item-preserved
clone_targets-loop-item-preserved g t c =
    one_more_made _ c.deref-item-items.result.now c.loop-item.copies.items _ c.loop-item.item-index c.item-item.result _ c.loop-item-test.true c.item-item.is
    c.loop-item.invariant c.in_ok-push_made.ensures
    (alike_at (λ s n. ClonesTarget (cloning g.P.LoadPayload.Clone.is_clone g.P.IdentPayload.Clone.is_clone g.P.IdentAssignPayload.Clone.is_clone
    g.P.DefPayload.Clone.is_clone g.P.TypeExprPayload.Clone.is_clone) (target_seen (span_of c.item-item.result.span) c.item-item.result.node)
    (target_seen s n)) c.item-item.result.span _ _ c.spanned_like.ensures.node c.spanned_like.ensures.span
    (at_place (λ s n. ClonesTarget (cloning g.P.LoadPayload.Clone.is_clone g.P.IdentPayload.Clone.is_clone g.P.IdentAssignPayload.Clone.is_clone
    g.P.DefPayload.Clone.is_clone g.P.TypeExprPayload.Clone.is_clone) (target_seen s c.item-item.result.node) (target_seen s n)) _
    (span_of c.item-item.result.span) c.clone_target.ensures))

pub clone_targets-returns : goal.clone_targets-returns
clone_targets-returns g t c =
    whole _ c.deref-item-items.result.now _ _ c.loop-item.item-index c.loop-item-test.false c.deref-item-items.ensures.value c.loop-item.invariant

pub clone_clauses-loop-item-preserved : goal.clone_clauses-loop-item-preserved
clone_clauses-loop-item-preserved g t c =
    one_more_made _ c.deref-item-items.result.now c.loop-item.copies.items _ c.loop-item.item-index c.item-item.result _ c.loop-item-test.true c.item-item.is
    c.loop-item.invariant c.in_ok-push_made.ensures
    (c.clone_clause.ensures)

pub clone_clauses-returns : goal.clone_clauses-returns
clone_clauses-returns g t c =
    whole _ c.deref-item-items.result.now _ _ c.loop-item.item-index c.loop-item-test.false c.deref-item-items.ensures.value c.loop-item.invariant

pub clone_exprs-loop-item-preserved : goal.clone_exprs-loop-item-preserved
clone_exprs-loop-item-preserved g t c =
    one_more_alike _ c.deref-item-items.result.now c.loop-item.copies.items _ c.loop-item.item-index c.item-item.result c.clone_expr.result
    c.loop-item-test.true c.item-item.is c.loop-item.invariant c.in_ok-copies-2.ensures
    (beside _ (span_of c.item-item.result.span) c.clone_expr.result c.clone_expr.ensures)

pub clone_exprs-returns : goal.clone_exprs-returns
clone_exprs-returns g t c =
    whole _ c.deref-item-items.result.now _ _ c.loop-item.item-index c.loop-item-test.false c.deref-item-items.ensures.value c.loop-item.invariant

pub clone_pairs-loop-item-preserved : goal.clone_pairs-loop-item-preserved
clone_pairs-loop-item-preserved g t c =
    let R = cloning g.P.LoadPayload.Clone.is_clone g.P.IdentPayload.Clone.is_clone g.P.IdentAssignPayload.Clone.is_clone g.P.DefPayload.Clone.is_clone
    g.P.TypeExprPayload.Clone.is_clone in
    one_more_pair (λ n. ClonesShape R (shape_seen c.item-item.result.0.node) (shape_seen n))
    (λ n. ClonesShape R (shape_seen c.item-item.result.1.node) (shape_seen n)) _ c.deref-item-items.result.now c.loop-item.copies.items _
    c.loop-item.item-index c.item-item.result c.clone_expr-key.result c.clone_expr-value.result c.loop-item-test.true c.item-item.is
    c.loop-item.invariant c.in_ok-copies-2.ensures c.clone_expr-key.ensures c.clone_expr-value.ensures (λ n m h k. ((refl, h), (refl, k)))

pub clone_pairs-clone_expr-key-requires : goal.clone_pairs-clone_expr-key-requires
clone_pairs-clone_expr-key-requires g t c κs within =
    let falls = pair_smaller _ _ c.deref-item-items.result.now c.args.items.now.items c.loop-item.item-index c.item-item.result t c.loop-item-test.true
    c.item-item.is c.deref-item-items.ensures.value c.decreases in
    (falls.0, within)

pub clone_pairs-clone_expr-value-requires : goal.clone_pairs-clone_expr-value-requires
clone_pairs-clone_expr-value-requires g t c κs within =
    let falls = pair_smaller _ _ c.deref-item-items.result.now c.args.items.now.items c.loop-item.item-index c.item-item.result t c.loop-item-test.true
    c.item-item.is c.deref-item-items.ensures.value c.decreases in
    (falls.1, within)

pub clone_pairs-returns : goal.clone_pairs-returns
clone_pairs-returns g t c =
    whole _ c.deref-item-items.result.now _ _ c.loop-item.item-index c.loop-item-test.false c.deref-item-items.ensures.value c.loop-item.invariant

pub clone_expr-returns-in-Tuple : goal.clone_expr-returns-in-Tuple
clone_expr-returns-in-Tuple g t c =
    rw c.in-Tuple.is (of_one_part _ _ e.Tuple _ _ c.tuple.ensures c.clone_exprs.ensures (λ x h. expressions_cloned
    (cloning g.P.LoadPayload.Clone.is_clone g.P.IdentPayload.Clone.is_clone g.P.IdentAssignPayload.Clone.is_clone
    g.P.DefPayload.Clone.is_clone g.P.TypeExprPayload.Clone.is_clone) _ _ h))

pub clone_expr-returns-in-List : goal.clone_expr-returns-in-List
clone_expr-returns-in-List g t c =
    rw c.in-List.is (of_one_part _ _ e.List _ _ c.list.ensures c.clone_exprs-in-List.ensures (λ x h. expressions_cloned
    (cloning g.P.LoadPayload.Clone.is_clone g.P.IdentPayload.Clone.is_clone g.P.IdentAssignPayload.Clone.is_clone
    g.P.DefPayload.Clone.is_clone g.P.TypeExprPayload.Clone.is_clone) _ _ h))

pub clone_expr-returns-in-Dict : goal.clone_expr-returns-in-Dict
clone_expr-returns-in-Dict g t c =
    rw c.in-Dict.is (of_one_part _ _ e.Dict _ _ c.dict.ensures c.clone_pairs.ensures (λ x h. pairs_cloned
    (cloning g.P.LoadPayload.Clone.is_clone g.P.IdentPayload.Clone.is_clone g.P.IdentAssignPayload.Clone.is_clone
    g.P.DefPayload.Clone.is_clone g.P.TypeExprPayload.Clone.is_clone) _ _ h))

pub clone_expr-returns-in-Literal : goal.clone_expr-returns-in-Literal
clone_expr-returns-in-Literal g t c =
    constant_cloned (cloning g.P.LoadPayload.Clone.is_clone g.P.IdentPayload.Clone.is_clone g.P.IdentAssignPayload.Clone.is_clone
    g.P.DefPayload.Clone.is_clone g.P.TypeExprPayload.Clone.is_clone) c.args.expr.now _ _ c.in-Literal.is c.clone_constant.ensures

pub clone_expr-returns-in-FString : goal.clone_expr-returns-in-FString
clone_expr-returns-in-FString g t c =
    rw c.in-FString.is (follows _ _ c.clone_exprs-in-FString.result _ c.fstring.ensures c.clone_exprs-in-FString.ensures)

pub clone_expr-returns-in-Dot : goal.clone_expr-returns-in-Dot
clone_expr-returns-in-Dot g t c =
    attribute_cloned (cloning g.P.LoadPayload.Clone.is_clone g.P.IdentPayload.Clone.is_clone g.P.IdentAssignPayload.Clone.is_clone
    g.P.DefPayload.Clone.is_clone g.P.TypeExprPayload.Clone.is_clone) c.args.expr.now _ _ _ _ c.in-Dot.is c.attribute.ensures c.clone_boxed.ensures

pub clone_expr-returns-in-Op : goal.clone_expr-returns-in-Op
clone_expr-returns-in-Op g t c =
    operation_cloned (cloning g.P.LoadPayload.Clone.is_clone g.P.IdentPayload.Clone.is_clone g.P.IdentAssignPayload.Clone.is_clone
    g.P.DefPayload.Clone.is_clone g.P.TypeExprPayload.Clone.is_clone) c.args.expr.now _ _ _ _ _ _ c.in-Op.is c.operation.ensures c.clone_boxed-in-Op.ensures
    c.clone_boxed-in-Op-2.ensures

pub clone_expr-returns-in-Call : goal.clone_expr-returns-in-Call
clone_expr-returns-in-Call g t c =
    call_cloned (cloning g.P.LoadPayload.Clone.is_clone g.P.IdentPayload.Clone.is_clone g.P.IdentAssignPayload.Clone.is_clone g.P.DefPayload.Clone.is_clone
    g.P.TypeExprPayload.Clone.is_clone) c.args.expr.now _ _ _ _ _ c.in-Call.is c.call.ensures c.clone_boxed-in-Call.ensures c.clone_arguments.ensures

pub clone_expr-returns-in-Slice : goal.clone_expr-returns-in-Slice
clone_expr-returns-in-Slice g t c =
    slice_cloned (cloning g.P.LoadPayload.Clone.is_clone g.P.IdentPayload.Clone.is_clone g.P.IdentAssignPayload.Clone.is_clone g.P.DefPayload.Clone.is_clone
    g.P.TypeExprPayload.Clone.is_clone) c.args.expr.now _ _ _ _ _ _ _ _ _ c.in-Slice.is c.slice.ensures c.clone_boxed-in-Slice.ensures
    c.clone_maybe.ensures c.clone_maybe-in-Slice.ensures c.clone_maybe-in-Slice-2.ensures

pub clone_expr-returns-in-ListComprehension : goal.clone_expr-returns-in-ListComprehension
clone_expr-returns-in-ListComprehension g t c =
    list_comprehension_cloned (cloning g.P.LoadPayload.Clone.is_clone g.P.IdentPayload.Clone.is_clone g.P.IdentAssignPayload.Clone.is_clone
    g.P.DefPayload.Clone.is_clone g.P.TypeExprPayload.Clone.is_clone) c.args.expr.now _ _ _ _ _ _ _ c.in-ListComprehension.is c.list_comprehension.ensures
    c.clone_boxed-in-ListComprehension.ensures c.clone_first.ensures c.clone_clauses.ensures

pub clone_expr-returns-in-DictComprehension : goal.clone_expr-returns-in-DictComprehension
clone_expr-returns-in-DictComprehension g t c =
    dict_comprehension_cloned (cloning g.P.LoadPayload.Clone.is_clone g.P.IdentPayload.Clone.is_clone g.P.IdentAssignPayload.Clone.is_clone
    g.P.DefPayload.Clone.is_clone g.P.TypeExprPayload.Clone.is_clone) c.args.expr.now _ _ _ _ _ _ _ c.in-DictComprehension.is c.dict_comprehension.ensures
    c.clone_pair-in-DictComprehension.ensures.first c.clone_pair-in-DictComprehension.ensures.second c.clone_first-in-DictComprehension.ensures
    c.clone_clauses-in-DictComprehension.ensures

pub clone_target-returns-in-Ok : goal.clone_target-returns-in-Ok
clone_target-returns-in-Ok g t c =
    λ at. rw c.in-Tuple.is (
      refl,
      targets_cloned (cloning g.P.LoadPayload.Clone.is_clone g.P.IdentPayload.Clone.is_clone g.P.IdentAssignPayload.Clone.is_clone
          g.P.DefPayload.Clone.is_clone g.P.TypeExprPayload.Clone.is_clone) _ _ c.in-Ok.ensures,
    )

pub clone_expr-returns-in-Lambda : goal.clone_expr-returns-in-Lambda
clone_expr-returns-in-Lambda g t c =
    rw c.in-Lambda.is (follow _ _ _ c.clone_parameters.result c.clone_boxed-in-Lambda.result _ c.lambda.ensures c.clone_parameters.ensures
    c.clone_boxed-in-Lambda.ensures)

pub clone_expr-returns-in-Identifier : goal.clone_expr-returns-in-Identifier
clone_expr-returns-in-Identifier g t c = rw c.in-Identifier.is c.clone_name.ensures

pub clone_expr-returns-in-Index : goal.clone_expr-returns-in-Index
clone_expr-returns-in-Index g t c =
    rw c.in-Index.is (of_one_part _ _ e.Index _ _ c.index.ensures (of_one _ _ _ c.clone_pair.ensures.first c.clone_pair.ensures.second) (λ x h. h))

pub clone_expr-returns-in-Index2 : goal.clone_expr-returns-in-Index2
clone_expr-returns-in-Index2 g t c =
    rw c.in-Index2.is (of_one_part _ _ e.Index2 _ _ c.index2.ensures (of_same _ _ _ _ c.clone_triple.ensures.first c.clone_triple.ensures.second
    c.clone_triple.ensures.third) (λ x h. h))

pub clone_expr-returns-in-If : goal.clone_expr-returns-in-If
clone_expr-returns-in-If g t c =
    rw c.in-If.is (of_one_part _ _ e.If _ _ c.conditional.ensures (of_same _ _ _ _ c.clone_triple-in-If.ensures.first c.clone_triple-in-If.ensures.second
    c.clone_triple-in-If.ensures.third) (λ x h. h))

pub clone_expr-returns-in-Not : goal.clone_expr-returns-in-Not
clone_expr-returns-in-Not g t c =
    rw c.in-Not.is (of_one_part _ _ e.Not _ _ c.not.ensures c.clone_boxed-in-Not.ensures (λ x h. h))

pub clone_expr-returns-in-Minus : goal.clone_expr-returns-in-Minus
clone_expr-returns-in-Minus g t c =
    rw c.in-Minus.is (of_one_part _ _ e.Minus _ _ c.minus.ensures c.clone_boxed-in-Minus.ensures (λ x h. h))

pub clone_expr-returns-in-Plus : goal.clone_expr-returns-in-Plus
clone_expr-returns-in-Plus g t c =
    rw c.in-Plus.is (of_one_part _ _ e.Plus _ _ c.plus.ensures c.clone_boxed-in-Plus.ensures (λ x h. h))

pub clone_expr-returns-in-BitNot : goal.clone_expr-returns-in-BitNot
clone_expr-returns-in-BitNot g t c =
    rw c.in-BitNot.is (of_one_part _ _ e.BitNot _ _ c.bit_not.ensures c.clone_boxed-in-BitNot.ensures (λ x h. h))

pub clone_pair-returns-clause-first : goal.clone_pair-returns-clause-first
clone_pair-returns-clause-first g t c =
    first_alike _ _ _ _ c.pair_like.ensures.first c.pair_like.ensures.first_span (rw c.deref.ensures at c.clone_expr.ensures)

pub clone_pair-returns-clause-second : goal.clone_pair-returns-clause-second
clone_pair-returns-clause-second g t c =
    second_alike _ _ _ _ c.pair_like.ensures.second c.pair_like.ensures.second_span (rw c.deref-2.ensures at c.clone_expr-2.ensures)
