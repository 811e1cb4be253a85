use Rattle.starlark_lexer.specs.Tokens.{span_of}
use Rattle.starlark_json.specs.Tree.Tokens.{pair_tokens}
use Rattle.starlark_json.proofs.TreeLemmas.AddsLemmas.{one, next, more, done}
use Rattle.starlark_json.proofs.TreeLemmas.Nodes.{args_parameter_tokens, args_tokens, bit_not_tokens, call_tokens, dict_comprehension_tokens, dict_tokens}
use Rattle.starlark_json.proofs.TreeLemmas.Nodes.{dot_tokens, f_string_tokens, for_clause_tokens, for_in_tokens, identifier_tokens, if_clause_tokens, if_tokens}
use Rattle.starlark_json.proofs.TreeLemmas.Nodes.{index2_tokens, index_tokens, kwargs_parameter_tokens, kwargs_tokens, lambda_tokens, list_comprehension_tokens}
use Rattle.starlark_json.proofs.TreeLemmas.Nodes.{list_tokens, literal_tokens, minus_tokens, named_tokens, no_args_tokens, normal_tokens, not_tokens, op_tokens}
use Rattle.starlark_json.proofs.TreeLemmas.Nodes.{plus_tokens, positional_tokens, slash_tokens, slice_tokens, target_dot_tokens, target_index_tokens}
use Rattle.starlark_json.proofs.TreeLemmas.Nodes.{target_name_tokens, target_tuple_tokens, tuple_tokens}
use Rattle.starlark_json.proofs.tree.expression.+write.Goals as goal

pub write_expr-returns-in-Tuple : goal.write_expr-returns-in-Tuple
write_expr-returns-in-Tuple t c = rw (c.in-Tuple.is, tuple_tokens c.in-Tuple.items (span_of c.args.span)) (rw c.deref.ensures.value at c.write_items.ensures)

pub write_expr-returns-in-Dot : goal.write_expr-returns-in-Dot
write_expr-returns-in-Dot t c = rw (c.in-Dot.is, dot_tokens c.in-Dot.object c.in-Dot.name (span_of c.args.span))
    (rw (c.deref-in-Dot.ensures, c.deref-in-Dot-2.ensures) at c.write_dot.ensures)

pub write_expr-returns-in_ok-write_arguments-in-Call : goal.write_expr-returns-in_ok-write_arguments-in-Call
write_expr-returns-in_ok-write_arguments-in-Call t c = rw (c.in-Call.is, call_tokens c.in-Call.callee c.in-Call.args (span_of c.args.span))
    (next c.in_ok-write_head-in-Call.ensures (next (rw (c.deref-in-Call.ensures, c.deref-in-Call-2.ensures) at c.in_ok-write_field-in-Call.ensures)
    (next (rw c.deref-in-Call-3.ensures.value at c.in_ok-write_arguments-in-Call.ensures) (one c.end_object.ensures))))

pub write_expr-returns-in-Index : goal.write_expr-returns-in-Index
write_expr-returns-in-Index t c = rw (c.in-Index.is, index_tokens c.in-Index.parts (span_of c.args.span)) (rw c.deref-in-Index.ensures at c.write_index.ensures)

pub write_expr-returns-in-Index2 : goal.write_expr-returns-in-Index2
write_expr-returns-in-Index2 t c = rw (c.in-Index2.is, index2_tokens c.in-Index2.parts (span_of c.args.span))
    (rw c.deref-in-Index2.ensures at c.write_index2.ensures)

pub write_expr-returns-in-If : goal.write_expr-returns-in-If
write_expr-returns-in-If t c = rw (c.in-If.is, if_tokens c.in-If.parts (span_of c.args.span)) (rw c.deref-in-If.ensures at c.write_conditional.ensures)

pub write_expr-returns-in_ok-write_maybe-in-Slice-3 : goal.write_expr-returns-in_ok-write_maybe-in-Slice-3
write_expr-returns-in_ok-write_maybe-in-Slice-3 t c =
    rw (c.in-Slice.is, slice_tokens c.in-Slice.array c.in-Slice.start c.in-Slice.stop c.in-Slice.step (span_of c.args.span))
    (next c.in_ok-write_head-in-Slice.ensures (next (rw (c.deref-in-Slice.ensures, c.deref-in-Slice-2.ensures) at c.in_ok-write_field-in-Slice.ensures)
    (next c.in_ok-write_maybe-in-Slice.ensures (next c.in_ok-write_maybe-in-Slice-2.ensures
    (next c.in_ok-write_maybe-in-Slice-3.ensures (one c.end_object-in-Slice.ensures))))))

pub write_expr-returns-in-Identifier : goal.write_expr-returns-in-Identifier
write_expr-returns-in-Identifier t c = rw (c.in-Identifier.is, identifier_tokens c.in-Identifier.name (span_of c.args.span))
    (rw c.as_str.ensures.value at c.write_name.ensures)

pub write_expr-returns-in-Lambda : goal.write_expr-returns-in-Lambda
write_expr-returns-in-Lambda t c = rw c.in-Lambda.is c.write_lambda.ensures

pub write_expr-returns-in-Literal : goal.write_expr-returns-in-Literal
write_expr-returns-in-Literal t c = rw (literal_tokens c.args.e.now c.in-Literal.literal (span_of c.args.span) c.in-Literal.is) c.write_literal.ensures

pub write_expr-returns-in-Not : goal.write_expr-returns-in-Not
write_expr-returns-in-Not t c = rw (c.in-Not.is, not_tokens c.in-Not.operand (span_of c.args.span))
    (rw (c.deref-in-Not.ensures, c.deref-in-Not-2.ensures) at c.write_unary.ensures)

pub write_expr-returns-in-Minus : goal.write_expr-returns-in-Minus
write_expr-returns-in-Minus t c = rw (c.in-Minus.is, minus_tokens c.in-Minus.operand (span_of c.args.span))
    (rw (c.deref-in-Minus.ensures, c.deref-in-Minus-2.ensures) at c.write_unary-in-Minus.ensures)

pub write_expr-returns-in-Plus : goal.write_expr-returns-in-Plus
write_expr-returns-in-Plus t c = rw (c.in-Plus.is, plus_tokens c.in-Plus.operand (span_of c.args.span))
    (rw (c.deref-in-Plus.ensures, c.deref-in-Plus-2.ensures) at c.write_unary-in-Plus.ensures)

pub write_expr-returns-in-BitNot : goal.write_expr-returns-in-BitNot
write_expr-returns-in-BitNot t c = rw (c.in-BitNot.is, bit_not_tokens c.in-BitNot.operand (span_of c.args.span))
    (rw (c.deref-in-BitNot.ensures, c.deref-in-BitNot-2.ensures) at c.write_unary-in-BitNot.ensures)

pub write_expr-returns-in_ok-write_field-in-Op-2 : goal.write_expr-returns-in_ok-write_field-in-Op-2
write_expr-returns-in_ok-write_field-in-Op-2 t c = rw (c.in-Op.is, op_tokens c.in-Op.left c.in-Op.operator c.in-Op.right (span_of c.args.span))
    (next c.in_ok-write_head-in-Op.ensures (next (rw c.operator_name.ensures at c.in_ok-write_text-in-Op.ensures)
    (next (rw (c.deref-in-Op.ensures, c.deref-in-Op-2.ensures) at c.in_ok-write_field-in-Op.ensures)
    (next (rw (c.deref-in-Op-3.ensures, c.deref-in-Op-4.ensures) at c.in_ok-write_field-in-Op-2.ensures) (one c.end_object-in-Op.ensures)))))

pub write_expr-returns-in-List : goal.write_expr-returns-in-List
write_expr-returns-in-List t c = rw (c.in-List.is, list_tokens c.in-List.items (span_of c.args.span))
    (rw c.deref-in-List.ensures.value at c.write_items-in-List.ensures)

pub write_expr-returns-in-Dict : goal.write_expr-returns-in-Dict
write_expr-returns-in-Dict t c = rw (c.in-Dict.is, dict_tokens c.in-Dict.pairs (span_of c.args.span)) (rw c.deref-in-Dict.ensures.value at c.write_dict.ensures)

pub write_expr-returns-in_ok-end_array-in-ListComprehension : goal.write_expr-returns-in_ok-end_array-in-ListComprehension
write_expr-returns-in_ok-end_array-in-ListComprehension t c =
    rw (
      c.in-ListComprehension.is,
      list_comprehension_tokens c.in-ListComprehension.element c.in-ListComprehension.first c.in-ListComprehension.clauses
          (span_of c.args.span),
    )
    (next c.in_ok-write_head-in-ListComprehension.ensures
    (next (rw (c.deref-in-ListComprehension.ensures, c.deref-in-ListComprehension-2.ensures) at c.in_ok-write_field-in-ListComprehension.ensures)
    (next (rw c.deref-in-ListComprehension-3.ensures at c.in_ok-write_first_clause-in-ListComprehension.ensures)
    (next (rw c.deref-in-ListComprehension-4.ensures.value at c.in_ok-write_more_clauses-in-ListComprehension.ensures)
    (next (one c.in_ok-end_array-in-ListComprehension.ensures) (one c.end_object-in-ListComprehension.ensures))))))

pub write_expr-returns-in_ok-end_array-in-DictComprehension : goal.write_expr-returns-in_ok-end_array-in-DictComprehension
write_expr-returns-in_ok-end_array-in-DictComprehension t c =
    rw (
      c.in-DictComprehension.is,
      dict_comprehension_tokens c.in-DictComprehension.pair c.in-DictComprehension.first c.in-DictComprehension.clauses
          (span_of c.args.span),
    )
    (next c.in_ok-write_head-in-DictComprehension.ensures
    (next (rw (c.deref-in-DictComprehension.ensures, c.deref-in-DictComprehension-2.ensures) at c.in_ok-write_field-in-DictComprehension.ensures)
    (next (rw (c.deref-in-DictComprehension-3.ensures, c.deref-in-DictComprehension-4.ensures) at c.in_ok-write_field-in-DictComprehension-2.ensures)
    (next (rw c.deref-in-DictComprehension-5.ensures at c.in_ok-write_first_clause-in-DictComprehension.ensures)
    (next (rw c.deref-in-DictComprehension-6.ensures.value at c.in_ok-write_more_clauses-in-DictComprehension.ensures)
    (next (one c.in_ok-end_array-in-DictComprehension.ensures) (one c.end_object-in-DictComprehension.ensures)))))))

pub write_expr-returns-in-FString : goal.write_expr-returns-in-FString
write_expr-returns-in-FString t c = rw (c.in-FString.is, f_string_tokens c.in-FString.text (span_of c.args.span)) c.write_f_string.ensures

pub write_type-returns : goal.write_type-returns
write_type-returns t c = next (one c.in_ok-begin_object.ensures)
    (next (one c.in_ok-key.ensures) (next c.in_ok-write_span.ensures (next c.in_ok-write_field.ensures (one c.end_object.ensures))))

pub write_items-returns : goal.write_items-returns
write_items-returns t c = next c.in_ok-write_head.ensures (next c.in_ok-write_exprs.ensures (one c.end_object.ensures))

pub write_unary-returns : goal.write_unary-returns
write_unary-returns t c = next c.in_ok-write_head.ensures (next c.in_ok-write_field.ensures (one c.end_object.ensures))

pub write_dot-returns : goal.write_dot-returns
write_dot-returns t c = next c.in_ok-write_head.ensures (next c.in_ok-write_field.ensures (next c.in_ok-write_string.ensures (one c.end_object.ensures)))

pub write_index-returns : goal.write_index-returns
write_index-returns t c = next c.in_ok-write_head.ensures (next c.in_ok-write_field.ensures (next c.in_ok-write_field-2.ensures (one c.end_object.ensures)))

pub write_index2-returns : goal.write_index2-returns
write_index2-returns t c = next c.in_ok-write_head.ensures
    (next c.in_ok-write_field.ensures (next c.in_ok-write_field-2.ensures (next c.in_ok-write_field-3.ensures (one c.end_object.ensures))))

pub write_conditional-returns : goal.write_conditional-returns
write_conditional-returns t c = next c.in_ok-write_head.ensures
    (next c.in_ok-write_field.ensures (next c.in_ok-write_field-2.ensures (next c.in_ok-write_field-3.ensures (one c.end_object.ensures))))

pub write_dict-returns : goal.write_dict-returns
write_dict-returns t c = next c.in_ok-write_head.ensures (next c.in_ok-write_entries.ensures (one c.end_object.ensures))

pub write_f_string-returns : goal.write_f_string-returns
write_f_string-returns t c = next c.in_ok-write_head.ensures
    (next c.in_ok-write_string.ensures (next (rw c.deref.ensures.value at c.in_ok-write_exprs.ensures) (one c.end_object.ensures)))

pub write_unnamed-returns : goal.write_unnamed-returns
write_unnamed-returns t c = next c.in_ok-write_head.ensures (next c.in_ok-write_field.ensures (one c.end_object.ensures))

pub write_argument-returns-in-Positional : goal.write_argument-returns-in-Positional
write_argument-returns-in-Positional t c = rw (c.in-Positional.is, positional_tokens c.in-Positional.e (span_of c.args.span)) c.write_unnamed.ensures

pub write_argument-returns-in-Args : goal.write_argument-returns-in-Args
write_argument-returns-in-Args t c = rw (c.in-Args.is, args_tokens c.in-Args.e (span_of c.args.span)) c.write_unnamed-in-Args.ensures

pub write_argument-returns-in-KwArgs : goal.write_argument-returns-in-KwArgs
write_argument-returns-in-KwArgs t c = rw (c.in-KwArgs.is, kwargs_tokens c.in-KwArgs.e (span_of c.args.span)) c.write_unnamed-in-KwArgs.ensures

pub write_argument-returns-in_ok-write_field-in-Named : goal.write_argument-returns-in_ok-write_field-in-Named
write_argument-returns-in_ok-write_field-in-Named t c = rw (c.in-Named.is, named_tokens c.in-Named.name c.in-Named.e (span_of c.args.span))
    (next c.in_ok-write_head-in-Named.ensures (next c.in_ok-write_string-in-Named.ensures
    (next c.in_ok-write_field-in-Named.ensures (one c.end_object.ensures))))

pub write_lambda-returns : goal.write_lambda-returns
write_lambda-returns t c = rw (lambda_tokens c.args.lambda.now (span_of c.args.span))
    (next c.in_ok-write_head.ensures (next (rw c.deref.ensures.value at c.in_ok-write_parameters.ensures)
    (next (rw (c.deref-2.ensures, c.deref-3.ensures) at c.in_ok-write_field.ensures) (one c.end_object.ensures))))

pub write_rest-returns : goal.write_rest-returns
write_rest-returns t c = next c.in_ok-write_head.ensures (next c.in_ok-write_bound.ensures (next c.in_ok-write_maybe_type.ensures (one c.end_object.ensures)))

pub write_parameter-returns-in-Slash : goal.write_parameter-returns-in-Slash
write_parameter-returns-in-Slash t c = rw (slash_tokens c.args.param.now (span_of c.args.span) c.in-Slash.is) c.write_bare.ensures

pub write_parameter-returns-in-NoArgs : goal.write_parameter-returns-in-NoArgs
write_parameter-returns-in-NoArgs t c = rw (no_args_tokens c.args.param.now (span_of c.args.span) c.in-NoArgs.is) c.write_bare-in-NoArgs.ensures

pub write_parameter-returns-in_ok-write_maybe-in-Normal : goal.write_parameter-returns-in_ok-write_maybe-in-Normal
write_parameter-returns-in_ok-write_maybe-in-Normal t c =
    rw (c.in-Normal.is, normal_tokens c.in-Normal.name c.in-Normal.ty c.in-Normal.default (span_of c.args.span))
    (next c.in_ok-write_head-in-Normal.ensures (next c.in_ok-write_bound-in-Normal.ensures
    (next c.in_ok-write_maybe_type-in-Normal.ensures (next c.in_ok-write_maybe-in-Normal.ensures (one c.end_object.ensures)))))

pub write_parameter-returns-in-Args : goal.write_parameter-returns-in-Args
write_parameter-returns-in-Args t c = rw (c.in-Args.is, args_parameter_tokens c.in-Args.name c.in-Args.ty (span_of c.args.span)) c.write_rest.ensures

pub write_parameter-returns-in-KwArgs : goal.write_parameter-returns-in-KwArgs
write_parameter-returns-in-KwArgs t c = rw (c.in-KwArgs.is, kwargs_parameter_tokens c.in-KwArgs.name c.in-KwArgs.ty (span_of c.args.span))
    c.write_rest-in-KwArgs.ensures

pub write_first_clause-returns : goal.write_first_clause-returns
write_first_clause-returns t c = next (one c.in_ok-key.ensures) (next (one c.in_ok-begin_array.ensures) (c.write_for.ensures))

pub write_for-returns : goal.write_for-returns
write_for-returns t c = rw (for_in_tokens c.args.clause.now)
    (next (one c.in_ok-begin_object.ensures) (next c.in_ok-write_text.ensures
    (next (one c.in_ok-key.ensures) (next c.in_ok-write_target.ensures (next c.in_ok-write_field.ensures (one c.end_object.ensures))))))

pub write_clause-returns-in-For : goal.write_clause-returns-in-For
write_clause-returns-in-For t c = rw (c.in-For.is, for_clause_tokens c.in-For.clause) c.write_for.ensures

pub write_clause-returns-in_ok-write_field-in-If : goal.write_clause-returns-in_ok-write_field-in-If
write_clause-returns-in_ok-write_field-in-If t c = rw (c.in-If.is, if_clause_tokens c.in-If.e)
    (next (one c.in_ok-begin_object-in-If.ensures) (next c.in_ok-write_text-in-If.ensures (next c.in_ok-write_field-in-If.ensures (one c.end_object.ensures))))

pub write_target-returns-in-Tuple : goal.write_target-returns-in-Tuple
write_target-returns-in-Tuple t c = rw (c.in-Tuple.is, target_tuple_tokens c.in-Tuple.items (span_of c.args.span))
    (rw c.deref.ensures.value at c.write_targets.ensures)

pub write_target-returns-in-Index : goal.write_target-returns-in-Index
write_target-returns-in-Index t c = rw (c.in-Index.is, target_index_tokens c.in-Index.parts (span_of c.args.span))
    (rw c.deref-in-Index.ensures at c.write_index.ensures)

pub write_target-returns-in-Dot : goal.write_target-returns-in-Dot
write_target-returns-in-Dot t c = rw (c.in-Dot.is, target_dot_tokens c.in-Dot.object c.in-Dot.name (span_of c.args.span))
    (rw (c.deref-in-Dot.ensures, c.deref-in-Dot-2.ensures) at c.write_dot.ensures)

pub write_target-returns-in-Identifier : goal.write_target-returns-in-Identifier
write_target-returns-in-Identifier t c = rw (c.in-Identifier.is, target_name_tokens c.in-Identifier.name (span_of c.args.span))
    (rw c.as_str.ensures.value at c.write_name.ensures)

pub write_targets-returns : goal.write_targets-returns
write_targets-returns t c = next c.in_ok-write_head.ensures (next c.in_ok-write_target_items.ensures (one c.end_object.ensures))

pub write_entries-loop-pair-preserved : goal.write_entries-loop-pair-preserved
write_entries-loop-pair-preserved t c =
    more pair_tokens (record { tokens = _; before = _; spare = 0 }) _ _ _ _ _ c.loop-pair-test.true c.pair-item.is c.loop-pair.invariant
    (next c.in_ok-write_entry_key.ensures c.in_ok-write_entry_value.ensures)

pub write_entries-returns : goal.write_entries-returns
write_entries-returns t c =
    next (one c.in_ok-key.ensures)
    (next (one c.in_ok-begin_array.ensures) (next (done pair_tokens _ _ _ _ c.loop-pair-test.false c.loop-pair.invariant) (one c.end_array.ensures)))
