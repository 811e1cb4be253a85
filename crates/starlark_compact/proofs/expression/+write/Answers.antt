use Rattle.std.proofs.Common.{rules}
use Rattle.starlark_lexer.specs.Tokens.{span_of}
use Rattle.starlark_compact.proofs.AddsLemmas.{next}
use Rattle.starlark_compact.proofs.Nodes.{args_bytes, args_parameter_bytes, bit_not_bytes, call_bytes, dict_bytes, dict_comprehension_bytes}
use Rattle.starlark_compact.proofs.Nodes.{dot_bytes, f_string_bytes, for_clause_bytes, for_in_bytes, identifier_bytes, if_bytes, if_clause_bytes}
use Rattle.starlark_compact.proofs.Nodes.{index2_bytes, index_bytes, kwargs_bytes, kwargs_parameter_bytes, lambda_bytes, list_bytes}
use Rattle.starlark_compact.proofs.Nodes.{list_comprehension_bytes, literal_of_expr, minus_bytes, named_bytes, no_args_bytes, normal_bytes, not_bytes}
use Rattle.starlark_compact.proofs.Nodes.{op_bytes, plus_bytes, positional_bytes, slash_bytes, slice_bytes, target_dot_bytes, target_index_bytes}
use Rattle.starlark_compact.proofs.Nodes.{target_name_bytes, target_tuple_bytes, tuple_bytes}
use Rattle.starlark_compact.proofs.expression.+write.Goals as goal

pub write_expr-returns-in-Tuple : goal.write_expr-returns-in-Tuple
write_expr-returns-in-Tuple t c = rw (c.in-Tuple.is, tuple_bytes c.in-Tuple.items (span_of c.args.span))
    (rw c.deref.ensures.value at c.write_items.ensures)

pub write_expr-returns-in-Dot : goal.write_expr-returns-in-Dot
write_expr-returns-in-Dot t c = rw (c.in-Dot.is, dot_bytes c.in-Dot.object c.in-Dot.name (span_of c.args.span))
    (rw (c.deref-in-Dot.ensures, c.deref-in-Dot-2.ensures) at c.write_dot.ensures)

pub write_expr-returns-in_ok-write_arguments-in-Call : goal.write_expr-returns-in_ok-write_arguments-in-Call
write_expr-returns-in_ok-write_arguments-in-Call t c = rw (c.in-Call.is, call_bytes c.in-Call.callee c.in-Call.args (span_of c.args.span))
    (next (rw (c.deref-in-Call.ensures, c.deref-in-Call-2.ensures) at c.in_ok-write_expr-in-Call.ensures)
    (next (rw c.deref-in-Call-3.ensures.value at c.in_ok-write_arguments-in-Call.ensures) (search rules)))

pub write_expr-returns-in-Index : goal.write_expr-returns-in-Index
write_expr-returns-in-Index t c = rw (c.in-Index.is, index_bytes c.in-Index.parts (span_of c.args.span))
    (rw c.deref-in-Index.ensures at c.write_index.ensures)

pub write_expr-returns-in-Index2 : goal.write_expr-returns-in-Index2
write_expr-returns-in-Index2 t c = rw (c.in-Index2.is, index2_bytes c.in-Index2.parts (span_of c.args.span))
    (rw c.deref-in-Index2.ensures at c.write_three.ensures)

pub write_expr-returns-in-If : goal.write_expr-returns-in-If
write_expr-returns-in-If t c = rw (c.in-If.is, if_bytes c.in-If.parts (span_of c.args.span))
    (rw c.deref-in-If.ensures at c.write_three-in-If.ensures)

pub write_expr-returns-in_ok-write_maybe-in-Slice-3 : goal.write_expr-returns-in_ok-write_maybe-in-Slice-3
write_expr-returns-in_ok-write_maybe-in-Slice-3 t c =
    rw (c.in-Slice.is, slice_bytes c.in-Slice.array c.in-Slice.start c.in-Slice.stop c.in-Slice.step (span_of c.args.span))
    (next (rw (c.deref-in-Slice.ensures, c.deref-in-Slice-2.ensures) at c.in_ok-write_expr-in-Slice.ensures)
    (next c.in_ok-write_maybe-in-Slice.ensures (next c.in_ok-write_maybe-in-Slice-2.ensures
    (next c.in_ok-write_maybe-in-Slice-3.ensures c.write_node.ensures))))

pub write_expr-returns-in-Identifier : goal.write_expr-returns-in-Identifier
write_expr-returns-in-Identifier t c = rw (c.in-Identifier.is, identifier_bytes c.in-Identifier.name (span_of c.args.span))
    (search rules)

pub write_expr-returns-in-Literal : goal.write_expr-returns-in-Literal
write_expr-returns-in-Literal t c = rw (literal_of_expr c.args.e.now c.in-Literal.literal (span_of c.args.span) c.in-Literal.is) c.write_literal.ensures

pub write_expr-returns-in-Not : goal.write_expr-returns-in-Not
write_expr-returns-in-Not t c = rw (c.in-Not.is, not_bytes c.in-Not.operand (span_of c.args.span))
    (rw (c.deref-in-Not.ensures, c.deref-in-Not-2.ensures) at c.write_unary.ensures)

pub write_expr-returns-in-Minus : goal.write_expr-returns-in-Minus
write_expr-returns-in-Minus t c = rw (c.in-Minus.is, minus_bytes c.in-Minus.operand (span_of c.args.span))
    (rw (c.deref-in-Minus.ensures, c.deref-in-Minus-2.ensures) at c.write_unary-in-Minus.ensures)

pub write_expr-returns-in-Plus : goal.write_expr-returns-in-Plus
write_expr-returns-in-Plus t c = rw (c.in-Plus.is, plus_bytes c.in-Plus.operand (span_of c.args.span))
    (rw (c.deref-in-Plus.ensures, c.deref-in-Plus-2.ensures) at c.write_unary-in-Plus.ensures)

pub write_expr-returns-in-BitNot : goal.write_expr-returns-in-BitNot
write_expr-returns-in-BitNot t c = rw (c.in-BitNot.is, bit_not_bytes c.in-BitNot.operand (span_of c.args.span))
    (rw (c.deref-in-BitNot.ensures, c.deref-in-BitNot-2.ensures) at c.write_unary-in-BitNot.ensures)

pub write_expr-returns-in_ok-write_expr-in-Op-2 : goal.write_expr-returns-in_ok-write_expr-in-Op-2
write_expr-returns-in_ok-write_expr-in-Op-2 t c = rw (c.in-Op.is, op_bytes c.in-Op.left c.in-Op.operator c.in-Op.right (span_of c.args.span))
    (next (rw (c.deref-in-Op.ensures, c.deref-in-Op-2.ensures) at c.in_ok-write_expr-in-Op.ensures)
    (next (rw (c.deref-in-Op-3.ensures, c.deref-in-Op-4.ensures) at c.in_ok-write_expr-in-Op-2.ensures)
    (rw c.operator_number.ensures at c.write_numbered.ensures)))

pub write_expr-returns-in-List : goal.write_expr-returns-in-List
write_expr-returns-in-List t c = rw (c.in-List.is, list_bytes c.in-List.items (span_of c.args.span))
    (rw c.deref-in-List.ensures.value at c.write_items-in-List.ensures)

pub write_expr-returns-in-Dict : goal.write_expr-returns-in-Dict
write_expr-returns-in-Dict t c = rw (c.in-Dict.is, dict_bytes c.in-Dict.pairs (span_of c.args.span))
    (rw c.deref-in-Dict.ensures.value at c.write_dict.ensures)

pub write_expr-returns-in_ok-write_more_clauses-in-ListComprehension : goal.write_expr-returns-in_ok-write_more_clauses-in-ListComprehension
write_expr-returns-in_ok-write_more_clauses-in-ListComprehension t c = rw (
  c.in-ListComprehension.is,
  list_comprehension_bytes c.in-ListComprehension.element c.in-ListComprehension.first c.in-ListComprehension.clauses
      (span_of c.args.span),
)
    (next (rw (c.deref-in-ListComprehension.ensures, c.deref-in-ListComprehension-2.ensures) at c.in_ok-write_expr-in-ListComprehension.ensures)
    (next (rw c.deref-in-ListComprehension-3.ensures at c.in_ok-write_for-in-ListComprehension.ensures)
    (next (rw c.deref-in-ListComprehension-4.ensures.value at c.in_ok-write_more_clauses-in-ListComprehension.ensures)
    (search rules))))

pub write_expr-returns-in_ok-write_more_clauses-in-DictComprehension : goal.write_expr-returns-in_ok-write_more_clauses-in-DictComprehension
write_expr-returns-in_ok-write_more_clauses-in-DictComprehension t c = rw (
  c.in-DictComprehension.is,
  dict_comprehension_bytes c.in-DictComprehension.pair c.in-DictComprehension.first c.in-DictComprehension.clauses
      (span_of c.args.span),
)
    (next (rw (c.deref-in-DictComprehension.ensures, c.deref-in-DictComprehension-2.ensures) at c.in_ok-write_expr-in-DictComprehension.ensures)
    (next (rw (c.deref-in-DictComprehension-3.ensures, c.deref-in-DictComprehension-4.ensures) at c.in_ok-write_expr-in-DictComprehension-2.ensures)
    (next (rw c.deref-in-DictComprehension-5.ensures at c.in_ok-write_for-in-DictComprehension.ensures)
    (next (rw c.deref-in-DictComprehension-6.ensures.value at c.in_ok-write_more_clauses-in-DictComprehension.ensures)
    (search rules)))))

pub write_expr-returns-in-FString : goal.write_expr-returns-in-FString
write_expr-returns-in-FString t c = rw (c.in-FString.is, f_string_bytes c.in-FString.text (span_of c.args.span))
    (c.write_f_string.ensures)

pub write_argument-returns-in-Positional : goal.write_argument-returns-in-Positional
write_argument-returns-in-Positional t c = rw (c.in-Positional.is, positional_bytes c.in-Positional.e (span_of c.args.span))
    (c.write_unary.ensures)

pub write_argument-returns-in-Args : goal.write_argument-returns-in-Args
write_argument-returns-in-Args t c = rw (c.in-Args.is, args_bytes c.in-Args.e (span_of c.args.span))
    (c.write_unary-in-Args.ensures)

pub write_argument-returns-in-KwArgs : goal.write_argument-returns-in-KwArgs
write_argument-returns-in-KwArgs t c = rw (c.in-KwArgs.is, kwargs_bytes c.in-KwArgs.e (span_of c.args.span))
    (c.write_unary-in-KwArgs.ensures)

pub write_argument-returns-in-Named : goal.write_argument-returns-in-Named
write_argument-returns-in-Named t c = rw (c.in-Named.is, named_bytes c.in-Named.name c.in-Named.e (span_of c.args.span))
    (c.write_dot.ensures)

pub write_lambda-returns : goal.write_lambda-returns
write_lambda-returns t c = rw (lambda_bytes c.args.lambda.now (span_of c.args.span))
    (next (rw c.deref.ensures.value at c.in_ok-write_parameters.ensures)
    (next (rw (c.deref-2.ensures, c.deref-3.ensures) at c.in_ok-write_expr.ensures) (search rules)))

pub write_parameter-returns-in-Slash : goal.write_parameter-returns-in-Slash
write_parameter-returns-in-Slash t c = rw (slash_bytes c.args.param.now (span_of c.args.span) c.in-Slash.is) c.write_node.ensures

pub write_parameter-returns-in-NoArgs : goal.write_parameter-returns-in-NoArgs
write_parameter-returns-in-NoArgs t c = rw (no_args_bytes c.args.param.now (span_of c.args.span) c.in-NoArgs.is) c.write_node-in-NoArgs.ensures

pub write_parameter-returns-in_ok-write_maybe-in-Normal : goal.write_parameter-returns-in_ok-write_maybe-in-Normal
write_parameter-returns-in_ok-write_maybe-in-Normal t c =
    rw (c.in-Normal.is, normal_bytes c.in-Normal.name c.in-Normal.ty c.in-Normal.default (span_of c.args.span))
    (next c.in_ok-write_maybe_type-in-Normal.ensures (next c.in_ok-write_maybe-in-Normal.ensures
    (rw c.as_str.ensures.value at c.write_named.ensures)))

pub write_parameter-returns-in-Args : goal.write_parameter-returns-in-Args
write_parameter-returns-in-Args t c = rw (c.in-Args.is, args_parameter_bytes c.in-Args.name c.in-Args.ty (span_of c.args.span))
    (c.write_rest.ensures)

pub write_parameter-returns-in-KwArgs : goal.write_parameter-returns-in-KwArgs
write_parameter-returns-in-KwArgs t c = rw (c.in-KwArgs.is, kwargs_parameter_bytes c.in-KwArgs.name c.in-KwArgs.ty (span_of c.args.span))
    (c.write_rest-in-KwArgs.ensures)

pub write_for-returns : goal.write_for-returns
write_for-returns t c = rw (for_in_bytes c.args.clause.now)
    (next c.in_ok-write_target.ensures (next c.in_ok-write_expr.ensures c.write_kind.ensures))

pub write_clause-returns-in-For : goal.write_clause-returns-in-For
write_clause-returns-in-For t c = rw (c.in-For.is, for_clause_bytes c.in-For.clause) c.write_for.ensures

pub write_clause-returns-in_ok-write_expr-in-If : goal.write_clause-returns-in_ok-write_expr-in-If
write_clause-returns-in_ok-write_expr-in-If t c = rw (c.in-If.is, if_clause_bytes c.in-If.e) (next c.in_ok-write_expr-in-If.ensures c.write_kind.ensures)

pub write_target-returns-in-Tuple : goal.write_target-returns-in-Tuple
write_target-returns-in-Tuple t c = rw (c.in-Tuple.is, target_tuple_bytes c.in-Tuple.items (span_of c.args.span))
    (rw c.deref.ensures.value at c.write_targets.ensures)

pub write_target-returns-in-Index : goal.write_target-returns-in-Index
write_target-returns-in-Index t c = rw (c.in-Index.is, target_index_bytes c.in-Index.parts (span_of c.args.span))
    (rw c.deref-in-Index.ensures at c.write_index.ensures)

pub write_target-returns-in-Dot : goal.write_target-returns-in-Dot
write_target-returns-in-Dot t c = rw (c.in-Dot.is, target_dot_bytes c.in-Dot.object c.in-Dot.name (span_of c.args.span))
    (rw (c.deref-in-Dot.ensures, c.deref-in-Dot-2.ensures) at c.write_dot.ensures)

pub write_target-returns-in-Identifier : goal.write_target-returns-in-Identifier
write_target-returns-in-Identifier t c = rw (c.in-Identifier.is, target_name_bytes c.in-Identifier.name (span_of c.args.span))
    (search rules)
