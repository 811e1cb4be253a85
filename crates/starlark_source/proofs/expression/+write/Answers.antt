use Rattle.std.proofs.Common.{◌≡◌, ◌+◌, ◌-◌, ◌≤◌, [], ◌++◌, codes, length, take, drop, string_bytes, sym, ap, ◌∙◌, ltb-true, ltb-false, arith}
use Rattle.std.specs.List.{flat_map}
use Rattle.std.proofs.lemmas.Grind.{common_steps}
use Rattle.std.proofs.lemmas.Str.{IsCharBoundary-start}
use Rattle.starlark_source.specs.Pieces.{escaped}
use Rattle.starlark_lexer.specs.Tokens.{span_of}
use Rattle.starlark_source.specs.Pages.{say}
use Rattle.starlark_source.specs.Drafted.{drafted_expr, drafted_argument, drafted_lambda_parameter, drafted_target, drafted_clause, drafted_filled}
use Rattle.starlark_source.specs.Drafted.{drafted_pair}
use Rattle.starlark_source.proofs.PageLemmas.{wrote_as, wrote_append, wrote_nothing}
use Rattle.starlark_source.proofs.WroteLists.{wrote_more, wrote_all, wrote_list, wrote_none, wrote_only, wrote_no_part, wrote_many, bare_few, bare_many}
use Rattle.starlark_source.proofs.ExpressionLemmas.{at_bracketed, at_plain, tuple_drafted, dot_drafted, call_drafted, index_drafted, index2_drafted}
use Rattle.starlark_source.proofs.ExpressionLemmas.{slice_drafted, identifier_drafted, literal_drafted, not_drafted, minus_drafted, plus_drafted}
use Rattle.starlark_source.proofs.ExpressionLemmas.{bit_not_drafted, op_drafted, if_drafted, list_drafted, dict_drafted, list_comprehension_drafted}
use Rattle.starlark_source.proofs.ExpressionLemmas.{dict_comprehension_drafted, f_string_drafted, lambda_drafted, lambda_slash_drafted, lambda_star_drafted}
use Rattle.starlark_source.proofs.ExpressionLemmas.{lambda_normal_drafted, lambda_args_drafted, lambda_kwargs_drafted, positional_drafted, named_drafted}
use Rattle.starlark_source.proofs.ExpressionLemmas.{args_drafted, kwargs_drafted, for_drafted, for_clause_drafted, if_clause_drafted, target_tuple_drafted}
use Rattle.starlark_source.proofs.ExpressionLemmas.{target_index_drafted, target_dot_drafted, target_name_drafted, targets_tuple_drafted, target_alone}
use Rattle.starlark_source.proofs.ExpressionLemmas.{lambda_none, lambda_some}
use Rattle.starlark_source.proofs.FilledLemmas.{all_used, brace_step, broken_step, hole_missing, hole_step, hole_there, opened, repr_step, some_unused}
use Rattle.starlark_source.proofs.FilledLemmas.{text_step, whole_rest}
use Rattle.starlark_source.proofs.expression.+write.Goals.{write_tuple-in_default-via-then-items-lt1}
use Rattle.starlark_source.proofs.expression.+write.Goals.{write_tuple-in_default-via-else-items-lt1+else-items-lt2}
use Rattle.starlark_source.proofs.expression.+write.Goals.{write_target_tuple-in_default-via-then-items-lt1}
use Rattle.starlark_source.proofs.expression.+write.Goals.{write_target_tuple-in_default-via-else-items-lt1+else-items-lt2}
use Rattle.starlark_source.proofs.expression.+write.Goals as goal

pub write_at-returns-then-loose : goal.write_at-returns-then-loose
write_at-returns-then-loose t c =
    wrote_as _ _ _ _ (wrote_append _ _ _ _ _ c.put.ensures (wrote_append _ _ _ _ _ c.write_expr.ensures c.put-then-loose.ensures))
    (at_bracketed c.args.level c.args.e.now (sym c.needs_brackets-loose.ensures ∙ c.if-loose.true))

pub write_at-returns-else-loose : goal.write_at-returns-else-loose
write_at-returns-else-loose t c =
    wrote_as _ _ _ _ c.write_expr-else-loose.ensures (at_plain c.args.level c.args.e.now (sym c.needs_brackets-loose.ensures ∙ c.if-loose.false))

pub write_expr-returns-in-Tuple : goal.write_expr-returns-in-Tuple
write_expr-returns-in-Tuple t c =
    rw (c.in-Tuple.is, tuple_drafted c.in-Tuple.items) (rw c.deref.ensures.value at c.write_tuple.ensures)

pub write_expr-returns-in-Dot : goal.write_expr-returns-in-Dot
write_expr-returns-in-Dot t c =
    rw (c.in-Dot.is, dot_drafted c.in-Dot.object c.in-Dot.name) (wrote_append _ _ _ _ _ (rw c.deref-in-Dot.ensures at c.write_at.ensures)
    (wrote_append _ _ _ _ _ c.put.ensures (rw c.as_str.ensures.value at c.write_name.ensures)))

pub write_expr-returns-in-Call : goal.write_expr-returns-in-Call
write_expr-returns-in-Call t c =
    rw (c.in-Call.is, call_drafted c.in-Call.callee c.in-Call.args) (wrote_append _ _ _ _ _ (rw c.deref-in-Call.ensures at c.write_at-in-Call.ensures)
    (wrote_append _ _ _ _ _ c.put-in-Call.ensures (wrote_append _ _ _ _ _ (rw c.deref-in-Call-2.ensures.value at c.write_arguments.ensures)
    c.put-in-Call-2.ensures)))

pub write_expr-returns-in-Index : goal.write_expr-returns-in-Index
write_expr-returns-in-Index t c =
    rw (c.in-Index.is, index_drafted c.in-Index.parts) (rw c.deref-in-Index.ensures at c.write_index.ensures)

pub write_expr-returns-in-Index2 : goal.write_expr-returns-in-Index2
write_expr-returns-in-Index2 t c =
    rw (c.in-Index2.is, index2_drafted c.in-Index2.parts) (rw c.deref-in-Index2.ensures at c.write_index2.ensures)

pub write_expr-returns-in-Slice : goal.write_expr-returns-in-Slice
write_expr-returns-in-Slice t c =
    rw (c.in-Slice.is, slice_drafted c.in-Slice.array c.in-Slice.start c.in-Slice.stop c.in-Slice.step)
    (wrote_append _ _ _ _ _ (rw c.deref-in-Slice.ensures at c.write_at-in-Slice.ensures)
    (wrote_append _ _ _ _ _ c.put-in-Slice.ensures (wrote_append _ _ _ _ _
    (wrote_append _ _ _ _ _ c.write_if_there.ensures (wrote_append _ _ _ _ _ c.put-in-Slice-2.ensures
    (wrote_append _ _ _ _ _ c.write_if_there-in-Slice.ensures c.write_if_there-in-Slice-2.ensures))) c.put-in-Slice-3.ensures)))

pub write_expr-returns-in-Identifier : goal.write_expr-returns-in-Identifier
write_expr-returns-in-Identifier t c =
    rw (c.in-Identifier.is, identifier_drafted c.in-Identifier.name) (rw c.as_str-in-Identifier.ensures.value at c.write_name-in-Identifier.ensures)

pub write_expr-returns-in-Lambda : goal.write_expr-returns-in-Lambda
write_expr-returns-in-Lambda t c =
    rw c.in-Lambda.is c.write_lambda.ensures

pub write_expr-returns-in-Literal : goal.write_expr-returns-in-Literal
write_expr-returns-in-Literal t c =
    rw (literal_drafted c.args.e.now c.in-Literal.literal c.in-Literal.is) c.write_literal.ensures

pub write_expr-returns-in-Not : goal.write_expr-returns-in-Not
write_expr-returns-in-Not t c =
    rw (c.in-Not.is, not_drafted c.in-Not.operand) (rw c.deref-in-Not.ensures at c.write_after_at.ensures)

pub write_expr-returns-in-Minus : goal.write_expr-returns-in-Minus
write_expr-returns-in-Minus t c =
    rw (c.in-Minus.is, minus_drafted c.in-Minus.operand) (rw c.deref-in-Minus.ensures at c.write_after_at-in-Minus.ensures)

pub write_expr-returns-in-Plus : goal.write_expr-returns-in-Plus
write_expr-returns-in-Plus t c =
    rw (c.in-Plus.is, plus_drafted c.in-Plus.operand) (rw c.deref-in-Plus.ensures at c.write_after_at-in-Plus.ensures)

pub write_expr-returns-in-BitNot : goal.write_expr-returns-in-BitNot
write_expr-returns-in-BitNot t c =
    rw (c.in-BitNot.is, bit_not_drafted c.in-BitNot.operand) (rw c.deref-in-BitNot.ensures at c.write_after_at-in-BitNot.ensures)

pub write_expr-returns-in-Op : goal.write_expr-returns-in-Op
write_expr-returns-in-Op t c =
    rw (c.in-Op.is, op_drafted c.in-Op.left c.in-Op.operator c.in-Op.right)
    (wrote_append _ _ _ _ _ (rw (c.deref-in-Op.ensures, c.left_of.ensures, c.level_of_operator-level.ensures) at c.write_at-in-Op.ensures)
    (wrote_append _ _ _ _ _ c.write_operator.ensures (rw (c.deref-in-Op-2.ensures, c.right_of.ensures, c.level_of_operator-level.ensures) at
    c.write_at-in-Op-2.ensures)))

pub write_expr-returns-in-If : goal.write_expr-returns-in-If
write_expr-returns-in-If t c =
    rw (c.in-If.is, if_drafted c.in-If.parts) (rw c.deref-in-If.ensures at c.write_conditional.ensures)

pub write_expr-returns-in-List : goal.write_expr-returns-in-List
write_expr-returns-in-List t c =
    rw (c.in-List.is, list_drafted c.in-List.items) (wrote_append _ _ _ _ _ c.put-in-List.ensures
    (wrote_append _ _ _ _ _ (rw c.deref-in-List.ensures.value at c.write_exprs.ensures) c.put-in-List-2.ensures))

pub write_expr-returns-in-Dict : goal.write_expr-returns-in-Dict
write_expr-returns-in-Dict t c =
    rw (c.in-Dict.is, dict_drafted c.in-Dict.pairs) (wrote_append _ _ _ _ _ c.put-in-Dict.ensures
    (wrote_append _ _ _ _ _ (rw c.deref-in-Dict.ensures.value at c.write_pairs.ensures) c.put-in-Dict-2.ensures))

pub write_expr-returns-in-ListComprehension : goal.write_expr-returns-in-ListComprehension
write_expr-returns-in-ListComprehension t c =
    rw (c.in-ListComprehension.is, list_comprehension_drafted c.in-ListComprehension.element c.in-ListComprehension.first c.in-ListComprehension.clauses)
    (wrote_append _ _ _ _ _ (wrote_append _ _ _ _ _ (rw c.deref-in-ListComprehension.ensures at c.write_after.ensures)
    (wrote_append _ _ _ _ _ (rw c.deref-in-ListComprehension-2.ensures at c.write_for_clause.ensures)
    (rw c.deref-in-ListComprehension-3.ensures.value at c.write_clauses.ensures))) c.put-in-ListComprehension.ensures)

pub write_expr-returns-in-DictComprehension : goal.write_expr-returns-in-DictComprehension
write_expr-returns-in-DictComprehension t c =
    rw (c.in-DictComprehension.is, dict_comprehension_drafted c.in-DictComprehension.pair c.in-DictComprehension.first c.in-DictComprehension.clauses)
    (wrote_append _ _ _ _ _ c.put-in-DictComprehension.ensures
    (wrote_append _ _ _ _ _ (wrote_append _ _ _ _ _ (rw c.deref-in-DictComprehension.ensures at c.write_pair.ensures)
    (wrote_append _ _ _ _ _ (rw c.deref-in-DictComprehension-2.ensures at c.write_for_clause-in-DictComprehension.ensures)
    (rw c.deref-in-DictComprehension-3.ensures.value at c.write_clauses-in-DictComprehension.ensures))) c.put-in-DictComprehension-2.ensures))

pub write_expr-returns-in-FString : goal.write_expr-returns-in-FString
write_expr-returns-in-FString t c =
    rw (c.in-FString.is, f_string_drafted c.in-FString.text) (c.write_f_string.ensures)

pub write_after-returns : goal.write_after-returns
write_after-returns t c =
    wrote_append _ _ _ _ _ c.put.ensures c.write_expr.ensures

pub write_after_at-returns : goal.write_after_at-returns
write_after_at-returns t c =
    wrote_append _ _ _ _ _ c.put.ensures c.write_at.ensures

pub write_exprs-returns-in-empty : goal.write_exprs-returns-in-empty
write_exprs-returns-in-empty t c =
    wrote_none (λ e. drafted_expr e.node) (codes ", ") _ _ c.in-empty.len_below

pub write_exprs-loop-item-init : goal.write_exprs-loop-item-init
write_exprs-loop-item-init t c =
    wrote_nothing _

pub write_exprs-loop-item-preserved : goal.write_exprs-loop-item-preserved
write_exprs-loop-item-preserved t c =
    wrote_more (λ e. say (codes ", ") ++ drafted_expr e.node) _ _ _ _ _ _ c.loop-item-test.true c.item-item.is c.loop-item.invariant (c.write_after.ensures)

pub write_exprs-returns-after-loop-item : goal.write_exprs-returns-after-loop-item
write_exprs-returns-after-loop-item t c =
    wrote_list (λ e. drafted_expr e.node) (codes ", ") _ _ _ _ _ _ c.in-len1-up.len_at_least c.first-item.is c.loop-item-test.false c.write_expr.ensures
    c.loop-item.invariant

pub write_pairs-returns-in-empty : goal.write_pairs-returns-in-empty
write_pairs-returns-in-empty t c =
    wrote_none (drafted_pair) (codes ", ") _ _ c.in-empty.len_below

pub write_pairs-loop-item-init : goal.write_pairs-loop-item-init
write_pairs-loop-item-init t c =
    wrote_nothing _

pub write_pairs-loop-item-preserved : goal.write_pairs-loop-item-preserved
write_pairs-loop-item-preserved t c =
    wrote_more (λ p. say (codes ", ") ++ drafted_pair p) _ _ _ _ _ _ c.loop-item-test.true c.item-item.is c.loop-item.invariant
    (wrote_append _ _ _ _ _ c.write_after-in-loop-item.ensures c.write_after-in-loop-item-2.ensures)

pub write_pairs-returns-after-loop-item : goal.write_pairs-returns-after-loop-item
write_pairs-returns-after-loop-item t c =
    wrote_list drafted_pair (codes ", ") _ _ _ _ _ _ c.in-len1-up.len_at_least c.first-item.is c.loop-item-test.false
    (wrote_append _ _ _ _ _ c.write_expr.ensures c.write_after.ensures) c.loop-item.invariant

pub write_arguments-returns-in-empty : goal.write_arguments-returns-in-empty
write_arguments-returns-in-empty t c =
    wrote_none (λ a. drafted_argument a.node) (codes ", ") _ _ c.in-empty.len_below

pub write_arguments-loop-item-init : goal.write_arguments-loop-item-init
write_arguments-loop-item-init t c =
    wrote_nothing _

pub write_arguments-loop-item-preserved : goal.write_arguments-loop-item-preserved
write_arguments-loop-item-preserved t c =
    wrote_more (λ a. say (codes ", ") ++ drafted_argument a.node) _ _ _ _ _ _ c.loop-item-test.true c.item-item.is c.loop-item.invariant
    (wrote_append _ _ _ _ _ c.put.ensures c.write_argument-in-loop-item.ensures)

pub write_arguments-returns-after-loop-item : goal.write_arguments-returns-after-loop-item
write_arguments-returns-after-loop-item t c =
    wrote_list (λ a. drafted_argument a.node) (codes ", ") _ _ _ _ _ _ c.in-len1-up.len_at_least c.first-item.is c.loop-item-test.false
    c.write_argument.ensures c.loop-item.invariant

pub write_targets-returns-in-empty : goal.write_targets-returns-in-empty
write_targets-returns-in-empty t c =
    wrote_none (λ x. drafted_target x.node) (codes ", ") _ _ c.in-empty.len_below

pub write_targets-loop-item-init : goal.write_targets-loop-item-init
write_targets-loop-item-init t c =
    wrote_nothing _

pub write_targets-loop-item-preserved : goal.write_targets-loop-item-preserved
write_targets-loop-item-preserved t c =
    wrote_more (λ x. say (codes ", ") ++ drafted_target x.node) _ _ _ _ _ _ c.loop-item-test.true c.item-item.is c.loop-item.invariant
    (wrote_append _ _ _ _ _ c.put.ensures c.write_target-in-loop-item.ensures)

pub write_targets-returns-after-loop-item : goal.write_targets-returns-after-loop-item
write_targets-returns-after-loop-item t c =
    wrote_list (λ x. drafted_target x.node) (codes ", ") _ _ _ _ _ _ c.in-len1-up.len_at_least c.first-item.is c.loop-item-test.false c.write_target.ensures
    c.loop-item.invariant

pub write_lambda_parameters-returns-in-empty : goal.write_lambda_parameters-returns-in-empty
write_lambda_parameters-returns-in-empty t c = wrote_as _ _ _ _ (wrote_nothing _) (lambda_none _ c.in-empty.len_below)

pub write_lambda_parameters-loop-item-init : goal.write_lambda_parameters-loop-item-init
write_lambda_parameters-loop-item-init t c =
    wrote_nothing _

pub write_lambda_parameters-loop-item-preserved : goal.write_lambda_parameters-loop-item-preserved
write_lambda_parameters-loop-item-preserved t c =
    wrote_more (λ p. say (codes ", ") ++ drafted_lambda_parameter p.node) _ _ _ _ _ _ c.loop-item-test.true c.item-item.is c.loop-item.invariant
    (wrote_append _ _ _ _ _ c.put-in-loop-item.ensures c.write_lambda_parameter-in-loop-item.ensures)

pub write_lambda_parameters-returns-after-loop-item : goal.write_lambda_parameters-returns-after-loop-item
write_lambda_parameters-returns-after-loop-item t c =
    wrote_as _ _ _ _ (wrote_append _ _ _ _ _ c.put.ensures
    (wrote_list (λ p. drafted_lambda_parameter p.node) (codes ", ") _ _ _ _ _ _ c.in-len1-up.len_at_least c.first-item.is c.loop-item-test.false
    c.write_lambda_parameter.ensures c.loop-item.invariant)) (lambda_some _ c.in-len1-up.len_at_least)

pub write_tuple-returns-in-len1 : goal.write_tuple-returns-in-len1
write_tuple-returns-in-len1 t c =
    wrote_only (λ e. drafted_expr e.node) _ _ _ _ _ _ c.in-len1.len_at_least c.in-len1.len_below c.only-item.is c.put.ensures c.write_expr.ensures
    c.put-in-len1.ensures

pub write_tuple-returns-in_default : goal.write_tuple-returns-in_default
write_tuple-returns-in_default t c =
    let w = wrote_append _ _ _ _ _ c.put.ensures (wrote_append _ _ _ _ _ c.write_exprs.ensures c.put-in_default.ensures) in
    elim c.in_default.branch [
      | write_tuple-in_default-via-then-items-lt1 v ↦ wrote_no_part (λ e. drafted_expr e.node) _ _ _
          (ltb-true _ _ v.if-items-lt1-1.true) w
      | write_tuple-in_default-via-else-items-lt1+else-items-lt2 v ↦
          wrote_many (λ e. drafted_expr e.node) _ _ _ (ltb-false _ _ v.if-items-lt2-1.false) w
    ]

pub write_target_tuple-returns-in-len1 : goal.write_target_tuple-returns-in-len1
write_target_tuple-returns-in-len1 t c =
    wrote_only (λ e. drafted_target e.node) _ _ _ _ _ _ c.in-len1.len_at_least c.in-len1.len_below c.only-item.is c.put.ensures c.write_target.ensures
    c.put-in-len1.ensures

pub write_target_tuple-returns-in_default : goal.write_target_tuple-returns-in_default
write_target_tuple-returns-in_default t c =
    let w = wrote_append _ _ _ _ _ c.put.ensures (wrote_append _ _ _ _ _ c.write_targets.ensures c.put-in_default.ensures) in
    elim c.in_default.branch [
      | write_target_tuple-in_default-via-then-items-lt1 v ↦ wrote_no_part (λ e. drafted_target e.node) _ _ _
          (ltb-true _ _ v.if-items-lt1-1.true) w
      | write_target_tuple-in_default-via-else-items-lt1+else-items-lt2 v ↦
          wrote_many (λ e. drafted_target e.node) _ _ _ (ltb-false _ _ v.if-items-lt2-1.false) w
    ]

pub write_index-returns : goal.write_index-returns
write_index-returns t c =
    wrote_append _ _ _ _ _ c.write_at.ensures (wrote_append _ _ _ _ _ c.write_after.ensures c.put.ensures)

pub write_index2-returns : goal.write_index2-returns
write_index2-returns t c =
    wrote_append _ _ _ _ _ c.write_at.ensures (wrote_append _ _ _ _ _ (wrote_append _ _ _ _ _ c.write_after.ensures c.write_after-2.ensures) c.put.ensures)

pub write_conditional-returns : goal.write_conditional-returns
write_conditional-returns t c =
    wrote_append _ _ _ _ _ c.write_at.ensures (wrote_append _ _ _ _ _ c.write_after_at.ensures c.write_after.ensures)

pub write_pair-returns : goal.write_pair-returns
write_pair-returns t c =
    wrote_append _ _ _ _ _ c.write_expr.ensures c.write_after.ensures

pub write_if_there-returns-in-Some : goal.write_if_there-returns-in-Some
write_if_there-returns-in-Some t c =
    rw c.in-Some.is (rw c.deref.ensures at c.write_after.ensures)

pub write_if_there-returns-in-None : goal.write_if_there-returns-in-None
write_if_there-returns-in-None t c =
    rw c.in-None.is (wrote_nothing _)

pub write_lambda-returns : goal.write_lambda-returns
write_lambda-returns t c =
    rw (lambda_drafted c.args.lambda.now) (wrote_append _ _ _ _ _ c.put.ensures
    (wrote_append _ _ _ _ _ (rw c.deref.ensures.value at c.write_lambda_parameters.ensures) (rw c.deref-2.ensures at c.write_after.ensures)))

pub write_lambda_parameter-returns-in-Slash : goal.write_lambda_parameter-returns-in-Slash
write_lambda_parameter-returns-in-Slash t c =
    rw (lambda_slash_drafted c.args.p.now c.in-Slash.is) c.put.ensures

pub write_lambda_parameter-returns-in-NoArgs : goal.write_lambda_parameter-returns-in-NoArgs
write_lambda_parameter-returns-in-NoArgs t c =
    rw (lambda_star_drafted c.args.p.now c.in-NoArgs.is) c.put-in-NoArgs.ensures

pub write_lambda_parameter-returns-in-Normal : goal.write_lambda_parameter-returns-in-Normal
write_lambda_parameter-returns-in-Normal t c =
    rw (c.in-Normal.is, lambda_normal_drafted c.in-Normal.name c.in-Normal.ty c.in-Normal.default)
    (wrote_append _ _ _ _ _ (rw c.as_str.ensures.value at c.write_name.ensures) (wrote_append _ _ _ _ _ c.refuse_type.ensures c.write_if_there.ensures))

pub write_lambda_parameter-returns-in-Args : goal.write_lambda_parameter-returns-in-Args
write_lambda_parameter-returns-in-Args t c =
    rw (c.in-Args.is, lambda_args_drafted c.in-Args.name c.in-Args.ty)
    (wrote_append _ _ _ _ _ c.put-in-Args.ensures (wrote_append _ _ _ _ _ (rw c.as_str-in-Args.ensures.value at c.write_name-in-Args.ensures)
    c.refuse_type-in-Args.ensures))

pub write_lambda_parameter-returns-in-KwArgs : goal.write_lambda_parameter-returns-in-KwArgs
write_lambda_parameter-returns-in-KwArgs t c =
    rw (c.in-KwArgs.is, lambda_kwargs_drafted c.in-KwArgs.name c.in-KwArgs.ty)
    (wrote_append _ _ _ _ _ c.put-in-KwArgs.ensures (wrote_append _ _ _ _ _ (rw c.as_str-in-KwArgs.ensures.value at c.write_name-in-KwArgs.ensures)
    c.refuse_type-in-KwArgs.ensures))

pub write_argument-returns-in-Positional : goal.write_argument-returns-in-Positional
write_argument-returns-in-Positional t c =
    rw (c.in-Positional.is, positional_drafted c.in-Positional.e) c.write_expr.ensures

pub write_argument-returns-in-Named : goal.write_argument-returns-in-Named
write_argument-returns-in-Named t c =
    rw (c.in-Named.is, named_drafted c.in-Named.name c.in-Named.e)
    (wrote_append _ _ _ _ _ (rw c.as_str.ensures.value at c.write_name.ensures) c.write_after.ensures)

pub write_argument-returns-in-Args : goal.write_argument-returns-in-Args
write_argument-returns-in-Args t c =
    rw (c.in-Args.is, args_drafted c.in-Args.e) c.write_after-in-Args.ensures

pub write_argument-returns-in-KwArgs : goal.write_argument-returns-in-KwArgs
write_argument-returns-in-KwArgs t c =
    rw (c.in-KwArgs.is, kwargs_drafted c.in-KwArgs.e) c.write_after-in-KwArgs.ensures

pub write_for_clause-returns : goal.write_for_clause-returns
write_for_clause-returns t c =
    rw (for_drafted c.args.c.now) (wrote_append _ _ _ _ _ c.put.ensures (wrote_append _ _ _ _ _ c.write_target_list.ensures c.write_after_at.ensures))

pub write_clause-returns-in-For : goal.write_clause-returns-in-For
write_clause-returns-in-For t c =
    rw (c.in-For.is, for_clause_drafted c.in-For.c) c.write_for_clause.ensures

pub write_clause-returns-in-If : goal.write_clause-returns-in-If
write_clause-returns-in-If t c =
    rw (c.in-If.is, if_clause_drafted c.in-If.e) c.write_after_at.ensures

pub write_clauses-loop-item-init : goal.write_clauses-loop-item-init
write_clauses-loop-item-init t c =
    wrote_nothing _

pub write_clauses-loop-item-preserved : goal.write_clauses-loop-item-preserved
write_clauses-loop-item-preserved t c =
    wrote_more drafted_clause _ _ _ _ _ _ c.loop-item-test.true c.item-item.is c.loop-item.invariant c.write_clause.ensures

pub write_clauses-returns : goal.write_clauses-returns
write_clauses-returns t c =
    wrote_all drafted_clause _ _ _ _ c.loop-item-test.false c.loop-item.invariant

pub write_target-returns-in-Tuple : goal.write_target-returns-in-Tuple
write_target-returns-in-Tuple t c =
    rw (c.in-Tuple.is, target_tuple_drafted c.in-Tuple.items) (rw c.deref.ensures.value at c.write_target_tuple.ensures)

pub write_target-returns-in-Index : goal.write_target-returns-in-Index
write_target-returns-in-Index t c =
    rw (c.in-Index.is, target_index_drafted c.in-Index.parts) (rw c.deref-in-Index.ensures at c.write_index.ensures)

pub write_target-returns-in-Dot : goal.write_target-returns-in-Dot
write_target-returns-in-Dot t c =
    rw (c.in-Dot.is, target_dot_drafted c.in-Dot.object c.in-Dot.name) (wrote_append _ _ _ _ _ (rw c.deref-in-Dot.ensures at c.write_at.ensures)
    (wrote_append _ _ _ _ _ c.put.ensures (rw c.as_str.ensures.value at c.write_name.ensures)))

pub write_target-returns-in-Identifier : goal.write_target-returns-in-Identifier
write_target-returns-in-Identifier t c =
    rw (c.in-Identifier.is, target_name_drafted c.in-Identifier.name) (rw c.as_str-in-Identifier.ensures.value at c.write_name-in-Identifier.ensures)

pub write_target_list-returns-in_default : goal.write_target_list-returns-in_default
write_target_list-returns-in_default t c =
    wrote_as _ _ _ _ c.write_target.ensures (target_alone c.args.target.now c.in_default.not-Tuple)

pub write_f_string-returns : goal.write_f_string-returns
write_f_string-returns t c =
    wrote_append _ _ _ _ _ c.put.ensures (wrote_append _ _ _ _ _ c.write_filled.ensures c.put-2.ensures)

pub write_hole-returns-then-at-values : goal.write_hole-returns-then-at-values
write_hole-returns-then-at-values t c =
    let v = c.index-values-at.result in
    wrote_as _ _ _ _ (wrote_append _ _ _ _ _ c.put.ensures (wrote_append _ _ _ _ _ c.write_expr.ensures c.put-then-at-values.ensures))
    (ap (λ x. say x ++ (drafted_expr v.node ++ say c.args.end.now)) c.opening.ensures ∙ opened (span_of c.args.span) [] c.args.values.now c.args.end.now v
    ∙ hole_there (span_of c.args.span) [] c.args.values.now c.args.end.now c.args.at v c.if-at-values.true c.index-values-at.is)

pub write_hole-returns-else-at-values : goal.write_hole-returns-else-at-values
write_hole-returns-else-at-values t c =
    wrote_as _ _ _ _ c.refuse.ensures (hole_missing (span_of c.args.span) [] c.args.values.now c.args.end.now c.args.at c.if-at-values.false)

pub write_target_list-returns-then-len-ge2 : goal.write_target_list-returns-then-len-ge2
write_target_list-returns-then-len-ge2 t c =
    rw (c.in-Tuple.is, targets_tuple_drafted c.in-Tuple.items) (wrote_as _ _ _ _ (rw c.deref.ensures.value at c.write_targets.ensures)
    (bare_many (λ x. drafted_target x.node) c.in-Tuple.items.items (omega arith)))

pub write_target_list-returns-else-len-ge2 : goal.write_target_list-returns-else-len-ge2
write_target_list-returns-else-len-ge2 t c =
    rw (c.in-Tuple.is, targets_tuple_drafted c.in-Tuple.items) (wrote_as _ _ _ _ (rw c.deref-else-len-ge2.ensures.value at c.write_target_tuple.ensures)
    (bare_few (λ x. drafted_target x.node) c.in-Tuple.items.items (omega arith)))

pub write_filled-marks-init : goal.write_filled-marks-init
write_filled-marks-init t c = (
  omega arith,
  omega arith,
  omega arith,
  IsCharBoundary-start c.as_str-format.result.now c.as_str-format.utf8,
  λ q w. wrote_as _ _ _ _ w (whole_rest (span_of c.args.span) c.as_str-format.result.now c.as_slice-values.result.now),
)

pub write_filled-marks-preserved-in-Text : goal.write_filled-marks-preserved-in-Text
write_filled-marks-preserved-in-Text t c =
    let s = span_of c.args.span in
    let f = c.as_str-format.result.now in
    let vs = c.as_slice-values.result.now in
    let (low, within, used_low, bound, goes) = c.marks.invariant in (
      omega arith,
      omega arith,
      omega arith,
      bound,
      λ q w. goes q (wrote_as _ _ _ _ w (text_step s f vs c.marks.start c.marks.at c.marks.used low c.marks-test.true c.in-Text.ensures.mark)),
    )

pub write_filled-marks-preserved-in-Brace : goal.write_filled-marks-preserved-in-Brace
write_filled-marks-preserved-in-Brace t c =
    let s = span_of c.args.span in
    let f = c.as_str-format.result.now in
    let vs = c.as_slice-values.result.now in
    let (low, within, used_low, bound, goes) = c.marks.invariant in
    let more : c.marks.at + 2 ≤ length f = c.in-Brace.ensures.fits in (
      omega arith,
      more,
      omega arith,
      bound,
      λ q w. goes q (wrote_as _ _ _ _ w (brace_step s f vs c.marks.start c.marks.at c.marks.used low (omega arith) c.in-Brace.ensures.mark)),
    )

pub write_filled-marks-preserved-in-Hole : goal.write_filled-marks-preserved-in-Hole
write_filled-marks-preserved-in-Hole t c =
    let s = span_of c.args.span in
    let f = c.as_str-format.result.now in
    let vs = c.as_slice-values.result.now in
    let (low, within, used_low, bound, goes) = c.marks.invariant in
    let run : c.range.result.now ≡ take (c.marks.at - c.marks.start) (drop c.marks.start f) = grind (arith, common_steps) in
    let (here, there) = c.in-Hole.ensures.fits in
    let more : c.marks.at + 2 ≤ length f = there.0 in (
      omega arith,
      more,
      omega arith,
      there,
      λ q w. goes q (hole_step s f vs c.marks.start c.marks.at c.marks.used _ _ _ q more c.in-Hole.ensures.mark
          (wrote_as _ _ _ _ c.write_escaped.ensures (ap (λ x. say (flat_map escaped x)) run)) c.write_hole.ensures w),
    )

pub write_filled-marks-preserved : goal.write_filled-marks-preserved
write_filled-marks-preserved t c =
    let s = span_of c.args.span in
    let f = c.as_str-format.result.now in
    let vs = c.as_slice-values.result.now in
    let (low, within, used_low, bound, goes) = c.marks.invariant in
    let run : c.range-in-ReprHole.result.now ≡ take (c.marks.at - c.marks.start) (drop c.marks.start f) = grind (arith, common_steps) in
    let (here, there) = c.in-ReprHole.ensures.fits in
    let more : c.marks.at + 4 ≤ length f = there.0 in (
      omega arith,
      more,
      omega arith,
      there,
      λ q w. goes q (repr_step s f vs c.marks.start c.marks.at c.marks.used _ _ _ q more c.in-ReprHole.ensures.mark
          (wrote_as _ _ _ _ c.write_escaped-in-ReprHole.ensures (ap (λ x. say (flat_map escaped x)) run)) c.write_hole-in-ReprHole.ensures w),
    )

pub write_filled-returns-in-Broken : goal.write_filled-returns-in-Broken
write_filled-returns-in-Broken t c =
    let s = span_of c.args.span in
    let f = c.as_str-format.result.now in
    let vs = c.as_slice-values.result.now in
    let (low, within, used_low, bound, goes) = c.marks.invariant in
    let run : c.range-in-Broken.result.now ≡ take (c.marks.at - c.marks.start) (drop c.marks.start f) = grind (arith, common_steps) in
    wrote_as _ _ _ _ (goes _ (broken_step s f vs c.marks.start c.marks.at c.marks.used _ _ _ c.marks-test.true c.in-Broken.ensures.mark
    (wrote_as _ _ _ _ c.write_escaped-in-Broken.ensures (ap (λ x. say (flat_map escaped x)) run)) c.refuse.ensures))
    (ap (λ g. drafted_filled s g vs) c.as_str-format.ensures.value ∙ ap (λ v. drafted_filled s (string_bytes c.args.text.now.format.node) v)
    c.as_slice-values.ensures.value)

pub write_filled-returns-then-used-values : goal.write_filled-returns-then-used-values
write_filled-returns-then-used-values t c =
    let s = span_of c.args.span in
    let f = c.as_str-format.result.now in
    let vs = c.as_slice-values.result.now in
    let (low, within, used_low, bound, goes) = c.marks.invariant in
    wrote_as _ _ _ _ (goes _ (some_unused s f vs c.marks.start c.marks.at c.marks.used _ _ _ c.marks-test.false low c.if-used-values.true
    (wrote_as _ _ _ _ c.write_escaped-2.ensures (ap (λ x. say (flat_map escaped x)) c.range_from.ensures.value)) c.refuse-then-used-values.ensures))
    (ap (λ g. drafted_filled s g vs) c.as_str-format.ensures.value ∙ ap (λ v. drafted_filled s (string_bytes c.args.text.now.format.node) v)
    c.as_slice-values.ensures.value)

pub write_filled-returns-else-used-values : goal.write_filled-returns-else-used-values
write_filled-returns-else-used-values t c =
    let s = span_of c.args.span in
    let f = c.as_str-format.result.now in
    let vs = c.as_slice-values.result.now in
    let (low, within, used_low, bound, goes) = c.marks.invariant in
    wrote_as _ _ _ _ (goes _ (all_used s f vs c.marks.start c.marks.at c.marks.used _ _ c.marks-test.false low c.if-used-values.false
    (wrote_as _ _ _ _ c.write_escaped-2.ensures (ap (λ x. say (flat_map escaped x)) c.range_from.ensures.value))))
    (ap (λ g. drafted_filled s g vs) c.as_str-format.ensures.value ∙ ap (λ v. drafted_filled s (string_bytes c.args.text.now.format.node) v)
    c.as_slice-values.ensures.value)
