use Rattle.std.proofs.Common.{◌++◌, codes, ltb-true, ltb-false}
use Rattle.std.proofs.Output.{has_written_append}
use Rattle.starlark_tree.specs.Printed.{printed_expr, printed_argument, printed_parameter, printed_target, printed_clause}
use Rattle.starlark_tree.proofs.PrintedLemmas.{call_printed, slice_printed, list_comprehension_printed, dict_comprehension_printed, normal_printed}
use Rattle.starlark_tree.proofs.PrintedLemmas.{tuple_printed, list_printed, dict_printed, f_string_printed, dot_printed, index_printed, index2_printed}
use Rattle.starlark_tree.proofs.PrintedLemmas.{if_printed, identifier_printed, literal_printed, not_printed, minus_printed, plus_printed, bit_not_printed}
use Rattle.starlark_tree.proofs.PrintedLemmas.{op_printed, absent_printed, present_printed, untyped_printed, typed_printed, lambda_printed}
use Rattle.starlark_tree.proofs.PrintedLemmas.{positional_printed, named_printed, args_printed, kwargs_printed, slash_printed, no_args_printed}
use Rattle.starlark_tree.proofs.PrintedLemmas.{args_parameter_printed, kwargs_parameter_printed, for_printed, for_clause_printed, if_clause_printed}
use Rattle.starlark_tree.proofs.PrintedLemmas.{target_tuple_printed, target_index_printed, target_dot_printed, target_name_printed}
use Rattle.starlark_tree.proofs.WrittenTexts.{nothing, then_two, more_written, all_written, listed_written, none_listed_written, only_written, none_tupled}
use Rattle.starlark_tree.proofs.WrittenTexts.{many_tupled, no_error, was_ok}
use Rattle.starlark_tree.proofs.display.expression.+write.Goals.{write_tuple-in_default-via-then-items-lt1}
use Rattle.starlark_tree.proofs.display.expression.+write.Goals.{write_tuple-in_default-via-else-items-lt1+else-items-lt2}
use Rattle.starlark_tree.proofs.display.expression.+write.Goals.{write_target_tuple-in_default-via-then-items-lt1}
use Rattle.starlark_tree.proofs.display.expression.+write.Goals.{write_target_tuple-in_default-via-else-items-lt1+else-items-lt2}
use Rattle.starlark_tree.proofs.display.expression.+write.Goals as goal

pub write_expr-returns-in_ok-write_arguments-in-Call : goal.write_expr-returns-in_ok-write_arguments-in-Call
write_expr-returns-in_ok-write_arguments-in-Call g t c =
    rw (c.in-Call.is, call_printed c.in-Call.callee c.in-Call.args)
    (λ plain ok.
    let p1 = rw c.deref-in-Call.ensures at (c.in_ok-write_expr-in-Call.ensures plain was_ok) in
    let p2 = c.in_ok-write_str-in-Call.ensures.writes p1.plain was_ok in
    let p3 = rw c.deref-in-Call-2.ensures.value at (c.in_ok-write_arguments-in-Call.ensures p2.plain was_ok) in
    let p4 = c.write_str-in-Call.ensures.writes p3.plain ok in
    has_written_append _ _ _ _ _ _ (has_written_append _ _ _ _ _ _ (has_written_append _ _ _ _ _ _ p1 p2) p3) p4)

pub write_expr-returns-in_ok-write_if_there-in-Slice-2 : goal.write_expr-returns-in_ok-write_if_there-in-Slice-2
write_expr-returns-in_ok-write_if_there-in-Slice-2 g t c =
    rw (c.in-Slice.is, slice_printed c.in-Slice.array c.in-Slice.start c.in-Slice.stop c.in-Slice.step)
    (λ plain ok.
    let p1 = rw c.deref-in-Slice.ensures at (c.in_ok-write_expr-in-Slice.ensures plain was_ok) in
    let p2 = c.in_ok-write_str-in-Slice.ensures.writes p1.plain was_ok in
    let p3 = c.in_ok-write_if_there-in-Slice.ensures p2.plain was_ok in
    let p4 = c.in_ok-write_str-in-Slice-2.ensures.writes p3.plain was_ok in
    let p5 = c.in_ok-write_if_there-in-Slice-2.ensures p4.plain was_ok in
    let p6 = c.write_if_there-in-Slice-2.ensures p5.plain ok in
    has_written_append _ _ _ _ _ _ (has_written_append _ _ _ _ _ _
    (has_written_append _ _ _ _ _ _ (has_written_append _ _ _ _ _ _ (has_written_append _ _ _ _ _ _ p1 p2) p3) p4) p5) p6)

pub write_expr-returns-in_ok-write_clauses-in-ListComprehension :
    goal.write_expr-returns-in_ok-write_clauses-in-ListComprehension
write_expr-returns-in_ok-write_clauses-in-ListComprehension g t c =
    rw (c.in-ListComprehension.is, list_comprehension_printed c.in-ListComprehension.element c.in-ListComprehension.first c.in-ListComprehension.clauses)
    (λ plain ok.
    let p1 = rw c.deref-in-ListComprehension.ensures at (c.in_ok-write_after-in-ListComprehension.ensures plain was_ok) in
    let p2 = rw c.deref-in-ListComprehension-2.ensures at (c.in_ok-write_for_clause-in-ListComprehension.ensures p1.plain was_ok) in
    let p3 = rw c.deref-in-ListComprehension-3.ensures.value at (c.in_ok-write_clauses-in-ListComprehension.ensures p2.plain was_ok) in
    let p4 = c.write_str-in-ListComprehension.ensures.writes p3.plain ok in
    has_written_append _ _ _ _ _ _ (has_written_append _ _ _ _ _ _ (has_written_append _ _ _ _ _ _ p1 p2) p3) p4)

pub write_expr-returns-in_ok-write_clauses-in-DictComprehension :
    goal.write_expr-returns-in_ok-write_clauses-in-DictComprehension
write_expr-returns-in_ok-write_clauses-in-DictComprehension g t c =
    rw (c.in-DictComprehension.is, dict_comprehension_printed c.in-DictComprehension.pair c.in-DictComprehension.first c.in-DictComprehension.clauses)
    (λ plain ok.
    let p1 = c.in_ok-write_str-in-DictComprehension.ensures.writes plain was_ok in
    let p2 = rw c.deref-in-DictComprehension.ensures at (c.in_ok-write_pair-in-DictComprehension.ensures p1.plain was_ok) in
    let p3 = rw c.deref-in-DictComprehension-2.ensures at (c.in_ok-write_for_clause-in-DictComprehension.ensures p2.plain was_ok) in
    let p4 = rw c.deref-in-DictComprehension-3.ensures.value at (c.in_ok-write_clauses-in-DictComprehension.ensures p3.plain was_ok) in
    let p5 = c.write_str-in-DictComprehension-2.ensures.writes p4.plain ok in
    has_written_append _ _ _ _ _ _ (has_written_append _ _ _ _ _ _ (has_written_append _ _ _ _ _ _ (has_written_append _ _ _ _ _ _ p1 p2) p3) p4) p5)

pub write_parameter-returns-in_ok-write_type_if_there-in-Normal :
    goal.write_parameter-returns-in_ok-write_type_if_there-in-Normal
write_parameter-returns-in_ok-write_type_if_there-in-Normal g t c =
    rw (c.in-Normal.is, normal_printed c.in-Normal.name c.in-Normal.ty c.in-Normal.default)
    (λ plain ok.
    let p1 = c.in_ok-fmt-in-Normal.ensures.writes plain was_ok in
    let p2 = c.in_ok-write_type_if_there-in-Normal.ensures p1.plain was_ok in
    let p3 = c.write_if_there.ensures p2.plain ok in
    has_written_append _ _ _ _ _ _ (has_written_append _ _ _ _ _ _ p1 p2) p3)

pub write_expr-returns-in-Tuple : goal.write_expr-returns-in-Tuple
write_expr-returns-in-Tuple g t c = rw (c.in-Tuple.is, tuple_printed c.in-Tuple.items) (rw c.deref.ensures.value at c.write_tuple.ensures)

pub write_expr-returns-in_ok-write_expr-in-Dot : goal.write_expr-returns-in_ok-write_expr-in-Dot
write_expr-returns-in_ok-write_expr-in-Dot g t c =
    rw (c.in-Dot.is, dot_printed c.in-Dot.object c.in-Dot.name)
    (λ plain ok.
    let p1 = rw c.deref-in-Dot.ensures at (c.in_ok-write_expr-in-Dot.ensures plain was_ok) in
    then_two _ _ _ _ _ (codes ".") _ p1 (c.write_attribute.ensures p1.plain ok))

pub write_expr-returns-in-Index : goal.write_expr-returns-in-Index
write_expr-returns-in-Index g t c = rw (c.in-Index.is, index_printed c.in-Index.parts) (rw c.deref-in-Index.ensures at c.write_index.ensures)

pub write_expr-returns-in-Index2 : goal.write_expr-returns-in-Index2
write_expr-returns-in-Index2 g t c = rw (c.in-Index2.is, index2_printed c.in-Index2.parts) (rw c.deref-in-Index2.ensures at c.write_index2.ensures)

pub write_expr-returns-in-Identifier : goal.write_expr-returns-in-Identifier
write_expr-returns-in-Identifier g t c = rw (c.in-Identifier.is, identifier_printed c.in-Identifier.name) c.fmt.ensures.writes

pub write_expr-returns-in-Lambda : goal.write_expr-returns-in-Lambda
write_expr-returns-in-Lambda g t c = rw c.in-Lambda.is c.write_lambda.ensures

pub write_expr-returns-in-Literal : goal.write_expr-returns-in-Literal
write_expr-returns-in-Literal g t c = rw (literal_printed c.args.e.now c.in-Literal.literal c.in-Literal.is) c.fmt-in-Literal.ensures.writes

pub write_expr-returns-in_ok-write_after-in-Not : goal.write_expr-returns-in_ok-write_after-in-Not
write_expr-returns-in_ok-write_after-in-Not g t c =
    rw (c.in-Not.is, not_printed c.in-Not.operand)
    (λ plain ok.
    let p1 = rw c.deref-in-Not.ensures at (c.in_ok-write_after-in-Not.ensures plain was_ok) in
    has_written_append _ _ _ _ _ _ p1 (c.write_str-in-Not.ensures.writes p1.plain ok))

pub write_expr-returns-in-Minus : goal.write_expr-returns-in-Minus
write_expr-returns-in-Minus g t c = rw (c.in-Minus.is, minus_printed c.in-Minus.operand) (rw c.deref-in-Minus.ensures at c.write_after-in-Minus.ensures)

pub write_expr-returns-in-Plus : goal.write_expr-returns-in-Plus
write_expr-returns-in-Plus g t c = rw (c.in-Plus.is, plus_printed c.in-Plus.operand) (rw c.deref-in-Plus.ensures at c.write_after-in-Plus.ensures)

pub write_expr-returns-in-BitNot : goal.write_expr-returns-in-BitNot
write_expr-returns-in-BitNot g t c = rw (c.in-BitNot.is, bit_not_printed c.in-BitNot.operand) (rw c.deref-in-BitNot.ensures at c.write_after-in-BitNot.ensures)

pub write_expr-returns-in_ok-write_expr-in-Op : goal.write_expr-returns-in_ok-write_expr-in-Op
write_expr-returns-in_ok-write_expr-in-Op g t c =
    rw (c.in-Op.is, op_printed c.in-Op.left c.in-Op.operator c.in-Op.right)
    (λ plain ok.
    let p1 = rw c.deref-in-Op.ensures at (c.in_ok-write_after-in-Op.ensures plain was_ok) in
    let p2 = c.in_ok-fmt-in-Op.ensures.writes p1.plain was_ok in
    let p3 = rw c.deref-in-Op-2.ensures at (c.in_ok-write_expr-in-Op.ensures p2.plain was_ok) in
    let p4 = c.write_str-in-Op.ensures.writes p3.plain ok in
    has_written_append _ _ _ _ _ _ (has_written_append _ _ _ _ _ _ (has_written_append _ _ _ _ _ _ p1 p2) p3) p4)

pub write_expr-returns-in-If : goal.write_expr-returns-in-If
write_expr-returns-in-If g t c = rw (c.in-If.is, if_printed c.in-If.parts) (rw c.deref-in-If.ensures at c.write_conditional.ensures)

pub write_expr-returns-in-List : goal.write_expr-returns-in-List
write_expr-returns-in-List g t c = rw (c.in-List.is, list_printed c.in-List.items) (rw c.deref-in-List.ensures.value at c.write_list.ensures)

pub write_expr-returns-in-Dict : goal.write_expr-returns-in-Dict
write_expr-returns-in-Dict g t c = rw (c.in-Dict.is, dict_printed c.in-Dict.pairs) (rw c.deref-in-Dict.ensures.value at c.write_dict.ensures)

pub write_expr-returns-in-FString : goal.write_expr-returns-in-FString
write_expr-returns-in-FString g t c = rw (c.in-FString.is, f_string_printed c.in-FString.text) c.write_f_string.ensures

pub write_after-returns : goal.write_after-returns
write_after-returns g t c plain ok =
    let p1 = c.in_ok-write_str.ensures.writes plain was_ok in
    has_written_append _ _ _ _ _ _ p1 (c.write_expr.ensures p1.plain ok)

pub write_exprs-returns-in-empty : goal.write_exprs-returns-in-empty
write_exprs-returns-in-empty g t c plain ok = none_listed_written _ _ _ _ c.in-empty.len_below plain

pub write_exprs-loop-item-init : goal.write_exprs-loop-item-init
write_exprs-loop-item-init g t c plain = nothing _ _ plain

pub write_exprs-loop-item-preserved : goal.write_exprs-loop-item-preserved
write_exprs-loop-item-preserved g t c plain =
    let p1 = c.loop-item.invariant plain in
    let p2 = c.in_ok-write_after-in-len1-up.ensures p1.plain was_ok in
    more_written _ (λ e. codes ", " ++ printed_expr e.node) _ _ _ _ _ _ c.loop-item-test.true c.item-item.is p1 p2

pub write_exprs-returns-after-loop-item : goal.write_exprs-returns-after-loop-item
write_exprs-returns-after-loop-item g t c plain ok =
    let p1 = c.in_ok-write_expr-in-len1-up.ensures plain was_ok in
    listed_written _ _ _ _ _ _ _ _ c.in-len1-up.len_at_least c.first-item.is c.loop-item-test.false p1 (c.loop-item.invariant p1.plain)

pub write_tuple-returns-in_ok-write_expr-in-len1 : goal.write_tuple-returns-in_ok-write_expr-in-len1
write_tuple-returns-in_ok-write_expr-in-len1 g t c plain ok =
    let p1 = c.in_ok-write_str.ensures.writes plain was_ok in
    let p2 = c.in_ok-write_expr-in-len1.ensures p1.plain was_ok in
    let p3 = c.write_str-in-len1.ensures.writes p2.plain ok in
    only_written _ _ _ _ _ _ _ _ c.in-len1.len_at_least c.in-len1.len_below c.only-item.is p1 p2 p3

pub write_tuple-returns-in_ok-write_exprs-in_default : goal.write_tuple-returns-in_ok-write_exprs-in_default
write_tuple-returns-in_ok-write_exprs-in_default g t c plain ok =
    let p1 = c.in_ok-write_str.ensures.writes plain was_ok in
    let p2 = c.in_ok-write_exprs-in_default.ensures p1.plain was_ok in
    let p3 = c.write_str-in_default.ensures.writes p2.plain ok in
    let p = has_written_append _ _ _ _ _ _ (has_written_append _ _ _ _ _ _ p1 p2) p3 in
    elim c.in_default.branch [
      | write_tuple-in_default-via-then-items-lt1 w ↦ none_tupled _ _ _ _ _ (ltb-true _ _ w.if-items-lt1-1.true) p
      | write_tuple-in_default-via-else-items-lt1+else-items-lt2 w ↦ many_tupled _ _ _ _ _ (ltb-false _ _ w.if-items-lt2-1.false) p
    ]

pub write_list-returns : goal.write_list-returns
write_list-returns g t c plain ok =
    let p1 = c.in_ok-write_str.ensures.writes plain was_ok in
    let p2 = c.in_ok-write_exprs.ensures p1.plain was_ok in
    has_written_append _ _ _ _ _ _ (has_written_append _ _ _ _ _ _ p1 p2) (c.write_str-2.ensures.writes p2.plain ok)

pub write_index-returns : goal.write_index-returns
write_index-returns g t c plain ok =
    let p1 = c.in_ok-write_expr.ensures plain was_ok in
    let p2 = c.in_ok-write_after.ensures p1.plain was_ok in
    has_written_append _ _ _ _ _ _ (then_two _ _ _ _ _ (codes "[") _ p1 p2) (c.write_str.ensures.writes p2.plain ok)

pub write_index2-returns : goal.write_index2-returns
write_index2-returns g t c plain ok =
    let p1 = c.in_ok-write_expr.ensures plain was_ok in
    let p2 = c.in_ok-write_after.ensures p1.plain was_ok in
    let p3 = c.in_ok-write_after-2.ensures p2.plain was_ok in
    has_written_append _ _ _ _ _ _ (then_two _ _ _ _ _ (codes ", ") _ (then_two _ _ _ _ _ (codes "[") _ p1 p2) p3) (c.write_str.ensures.writes p3.plain ok)

pub write_conditional-returns : goal.write_conditional-returns
write_conditional-returns g t c plain ok =
    let p1 = c.in_ok-write_after.ensures plain was_ok in
    let p2 = c.in_ok-write_after-2.ensures p1.plain was_ok in
    let p3 = c.in_ok-write_after-3.ensures p2.plain was_ok in
    has_written_append _ _ _ _ _ _ (then_two _ _ _ _ _ (codes " else ") _ (then_two _ _ _ _ _ (codes " if ") _ p1 p2) p3)
    (c.write_str.ensures.writes p3.plain ok)

pub write_pair-returns : goal.write_pair-returns
write_pair-returns g t c plain ok =
    let p1 = c.in_ok-write_expr.ensures plain was_ok in
    then_two _ _ _ _ _ (codes ": ") _ p1 (c.write_after.ensures p1.plain ok)

pub write_pairs-returns-in-empty : goal.write_pairs-returns-in-empty
write_pairs-returns-in-empty g t c plain ok = none_listed_written _ _ _ _ c.in-empty.len_below plain

pub write_pairs-loop-item-init : goal.write_pairs-loop-item-init
write_pairs-loop-item-init g t c plain = nothing _ _ plain

pub write_pairs-loop-item-preserved : goal.write_pairs-loop-item-preserved
write_pairs-loop-item-preserved g t c plain =
    let p1 = c.loop-item.invariant plain in
    let p2 = c.in_ok-write_after-in-len1-up-2.ensures p1.plain was_ok in
    let p3 = c.in_ok-write_after-in-len1-up-3.ensures p2.plain was_ok in
    more_written _ (λ pair. codes ", " ++ (printed_expr pair.0.node ++ codes ": " ++ printed_expr pair.1.node)) _ _ _ _ _ _ c.loop-item-test.true
    c.item-item.is p1 (then_two _ _ _ _ _ (codes ": ") _ p2 p3)

pub write_pairs-returns-after-loop-item : goal.write_pairs-returns-after-loop-item
write_pairs-returns-after-loop-item g t c plain ok =
    let p1 = c.in_ok-write_expr-in-len1-up.ensures plain was_ok in
    let p2 = c.in_ok-write_after-in-len1-up.ensures p1.plain was_ok in
    listed_written _ _ _ _ _ _ _ _ c.in-len1-up.len_at_least c.first-item.is c.loop-item-test.false (then_two _ _ _ _ _ (codes ": ") _ p1 p2)
    (c.loop-item.invariant p2.plain)

pub write_dict-returns : goal.write_dict-returns
write_dict-returns g t c plain ok =
    let p1 = c.in_ok-write_str.ensures.writes plain was_ok in
    let p2 = c.in_ok-write_pairs.ensures p1.plain was_ok in
    has_written_append _ _ _ _ _ _ (has_written_append _ _ _ _ _ _ p1 p2) (c.write_str-2.ensures.writes p2.plain ok)

pub write_if_there-returns-in-Some : goal.write_if_there-returns-in-Some
write_if_there-returns-in-Some g t c = rw (c.in-Some.is, present_printed c.args.before.now c.in-Some.e) (rw c.deref.ensures at c.write_after.ensures)

pub write_if_there-returns-in-None : goal.write_if_there-returns-in-None
write_if_there-returns-in-None g t c = rw (absent_printed c.args.before.now c.args.e.now c.in-None.is) (λ plain ok. nothing _ _ plain)

pub write_type_if_there-returns-in-Some : goal.write_type_if_there-returns-in-Some
write_type_if_there-returns-in-Some g t c = rw (c.in-Some.is, typed_printed c.args.before.now c.in-Some.ty) (rw c.deref.ensures at c.write_after.ensures)

pub write_type_if_there-returns-in-None : goal.write_type_if_there-returns-in-None
write_type_if_there-returns-in-None g t c = rw (untyped_printed c.args.before.now c.args.ty.now c.in-None.is) (λ plain ok. nothing _ _ plain)

pub write_lambda-returns : goal.write_lambda-returns
write_lambda-returns g t c =
    rw (lambda_printed c.args.lambda.now)
    (λ plain ok.
    let p1 = c.in_ok-write_str.ensures.writes plain was_ok in
    let p2 = rw c.deref.ensures.value at (c.in_ok-write_parameters.ensures p1.plain was_ok) in
    let p3 = rw c.deref-2.ensures at (c.in_ok-write_after.ensures p2.plain was_ok) in
    has_written_append _ _ _ _ _ _ (then_two _ _ _ _ _ (codes ": ") _ (has_written_append _ _ _ _ _ _ p1 p2) p3) (c.write_str-2.ensures.writes p3.plain ok))

pub write_f_string-returns : goal.write_f_string-returns
write_f_string-returns g t c plain ok =
    let p1 = rw c.as_str.ensures.value at (c.in_ok-write_str.ensures.writes plain was_ok) in
    let p2 = c.in_ok-write_str-2.ensures.writes p1.plain was_ok in
    let p3 = rw c.deref.ensures.value at (c.in_ok-write_exprs.ensures p2.plain was_ok) in
    has_written_append _ _ _ _ _ _ (has_written_append _ _ _ _ _ _ (has_written_append _ _ _ _ _ _ p1 p2) p3) (c.write_str-3.ensures.writes p3.plain ok)

pub write_argument-returns-in-Positional : goal.write_argument-returns-in-Positional
write_argument-returns-in-Positional g t c = rw (c.in-Positional.is, positional_printed c.in-Positional.e) c.write_expr.ensures

pub write_argument-returns-in_ok-write_str-in-Named : goal.write_argument-returns-in_ok-write_str-in-Named
write_argument-returns-in_ok-write_str-in-Named g t c =
    rw (c.in-Named.is, named_printed c.in-Named.name c.in-Named.e)
    (λ plain ok.
    let p1 = rw c.as_str.ensures.value at (c.in_ok-write_str-in-Named.ensures.writes plain was_ok) in
    then_two _ _ _ _ _ (codes " = ") _ p1 (c.write_after.ensures p1.plain ok))

pub write_argument-returns-in-Args : goal.write_argument-returns-in-Args
write_argument-returns-in-Args g t c = rw (c.in-Args.is, args_printed c.in-Args.e) c.write_after-in-Args.ensures

pub write_argument-returns-in-KwArgs : goal.write_argument-returns-in-KwArgs
write_argument-returns-in-KwArgs g t c = rw (c.in-KwArgs.is, kwargs_printed c.in-KwArgs.e) c.write_after-in-KwArgs.ensures

pub write_arguments-returns-in-empty : goal.write_arguments-returns-in-empty
write_arguments-returns-in-empty g t c plain ok = none_listed_written _ _ _ _ c.in-empty.len_below plain

pub write_arguments-loop-item-init : goal.write_arguments-loop-item-init
write_arguments-loop-item-init g t c plain = nothing _ _ plain

pub write_arguments-loop-item-preserved : goal.write_arguments-loop-item-preserved
write_arguments-loop-item-preserved g t c plain =
    let p1 = c.loop-item.invariant plain in
    let p2 = c.in_ok-write_str-in-len1-up.ensures.writes p1.plain was_ok in
    let p3 = c.in_ok-write_argument-in-len1-up-2.ensures p2.plain was_ok in
    more_written _ (λ a. codes ", " ++ printed_argument a.node) _ _ _ _ _ _ c.loop-item-test.true c.item-item.is p1 (has_written_append _ _ _ _ _ _ p2 p3)

pub write_arguments-returns-after-loop-item : goal.write_arguments-returns-after-loop-item
write_arguments-returns-after-loop-item g t c plain ok =
    let p1 = c.in_ok-write_argument-in-len1-up.ensures plain was_ok in
    listed_written _ _ _ _ _ _ _ _ c.in-len1-up.len_at_least c.first-item.is c.loop-item-test.false p1 (c.loop-item.invariant p1.plain)

pub write_parameter-returns-in-Slash : goal.write_parameter-returns-in-Slash
write_parameter-returns-in-Slash g t c = rw (slash_printed c.args.p.now c.in-Slash.is) c.write_str.ensures.writes

pub write_parameter-returns-in-NoArgs : goal.write_parameter-returns-in-NoArgs
write_parameter-returns-in-NoArgs g t c = rw (no_args_printed c.args.p.now c.in-NoArgs.is) c.write_str-in-NoArgs.ensures.writes

pub write_parameter-returns-in_ok-fmt-in-Args : goal.write_parameter-returns-in_ok-fmt-in-Args
write_parameter-returns-in_ok-fmt-in-Args g t c =
    rw (c.in-Args.is, args_parameter_printed c.in-Args.name c.in-Args.ty)
    (λ plain ok.
    let p1 = c.in_ok-write_str-in-Args.ensures.writes plain was_ok in
    let p2 = c.in_ok-fmt-in-Args.ensures.writes p1.plain was_ok in
    has_written_append _ _ _ _ _ _ (has_written_append _ _ _ _ _ _ p1 p2) (c.write_type_if_there-in-Args.ensures p2.plain ok))

pub write_parameter-returns-in_ok-fmt-in-KwArgs : goal.write_parameter-returns-in_ok-fmt-in-KwArgs
write_parameter-returns-in_ok-fmt-in-KwArgs g t c =
    rw (c.in-KwArgs.is, kwargs_parameter_printed c.in-KwArgs.name c.in-KwArgs.ty)
    (λ plain ok.
    let p1 = c.in_ok-write_str-in-KwArgs.ensures.writes plain was_ok in
    let p2 = c.in_ok-fmt-in-KwArgs.ensures.writes p1.plain was_ok in
    has_written_append _ _ _ _ _ _ (has_written_append _ _ _ _ _ _ p1 p2) (c.write_type_if_there-in-KwArgs.ensures p2.plain ok))

pub write_parameters-returns-in-empty : goal.write_parameters-returns-in-empty
write_parameters-returns-in-empty g t c plain ok = none_listed_written _ _ _ _ c.in-empty.len_below plain

pub write_parameters-loop-item-init : goal.write_parameters-loop-item-init
write_parameters-loop-item-init g t c plain = nothing _ _ plain

pub write_parameters-loop-item-preserved : goal.write_parameters-loop-item-preserved
write_parameters-loop-item-preserved g t c plain =
    let p1 = c.loop-item.invariant plain in
    let p2 = c.in_ok-write_str-in-len1-up.ensures.writes p1.plain was_ok in
    let p3 = c.in_ok-write_parameter-in-len1-up-2.ensures p2.plain was_ok in
    more_written _ (λ p. codes ", " ++ printed_parameter p.node) _ _ _ _ _ _ c.loop-item-test.true c.item-item.is p1 (has_written_append _ _ _ _ _ _ p2 p3)

pub write_parameters-returns-after-loop-item : goal.write_parameters-returns-after-loop-item
write_parameters-returns-after-loop-item g t c plain ok =
    let p1 = c.in_ok-write_parameter-in-len1-up.ensures plain was_ok in
    listed_written _ _ _ _ _ _ _ _ c.in-len1-up.len_at_least c.first-item.is c.loop-item-test.false p1 (c.loop-item.invariant p1.plain)

pub write_for_clause-returns : goal.write_for_clause-returns
write_for_clause-returns g t c =
    rw (for_printed c.args.c.now)
    (λ plain ok.
    let p1 = c.in_ok-write_str.ensures.writes plain was_ok in
    let p2 = c.in_ok-write_target.ensures p1.plain was_ok in
    then_two _ _ _ _ _ (codes " in ") _ (has_written_append _ _ _ _ _ _ p1 p2) (c.write_after.ensures p2.plain ok))

pub write_clause-returns-in-For : goal.write_clause-returns-in-For
write_clause-returns-in-For g t c = rw (c.in-For.is, for_clause_printed c.in-For.c) c.write_for_clause.ensures

pub write_clause-returns-in-If : goal.write_clause-returns-in-If
write_clause-returns-in-If g t c = rw (c.in-If.is, if_clause_printed c.in-If.e) c.write_after.ensures

pub write_clauses-loop-item-init : goal.write_clauses-loop-item-init
write_clauses-loop-item-init g t c plain = nothing _ _ plain

pub write_clauses-loop-item-preserved : goal.write_clauses-loop-item-preserved
write_clauses-loop-item-preserved g t c plain =
    let p1 = c.loop-item.invariant plain in
    more_written _ printed_clause _ _ _ _ _ _ c.loop-item-test.true c.item-item.is p1 (c.in_ok-write_clause.ensures p1.plain was_ok)

pub write_clauses-returns : goal.write_clauses-returns
write_clauses-returns g t c plain ok = all_written _ _ _ _ _ _ c.loop-item-test.false (c.loop-item.invariant plain)

pub write_target-returns-in-Tuple : goal.write_target-returns-in-Tuple
write_target-returns-in-Tuple g t c = rw (c.in-Tuple.is, target_tuple_printed c.in-Tuple.items) (rw c.deref.ensures.value at c.write_target_tuple.ensures)

pub write_target-returns-in-Index : goal.write_target-returns-in-Index
write_target-returns-in-Index g t c = rw (c.in-Index.is, target_index_printed c.in-Index.parts) (rw c.deref-in-Index.ensures at c.write_index.ensures)

pub write_target-returns-in_ok-write_expr-in-Dot : goal.write_target-returns-in_ok-write_expr-in-Dot
write_target-returns-in_ok-write_expr-in-Dot g t c =
    rw (c.in-Dot.is, target_dot_printed c.in-Dot.object c.in-Dot.name)
    (λ plain ok.
    let p1 = rw c.deref-in-Dot.ensures at (c.in_ok-write_expr-in-Dot.ensures plain was_ok) in
    then_two _ _ _ _ _ (codes ".") _ p1 (c.write_attribute.ensures p1.plain ok))

pub write_target-returns-in-Identifier : goal.write_target-returns-in-Identifier
write_target-returns-in-Identifier g t c = rw (c.in-Identifier.is, target_name_printed c.in-Identifier.name) c.fmt.ensures.writes

pub write_targets-returns-in-empty : goal.write_targets-returns-in-empty
write_targets-returns-in-empty g t c plain ok = none_listed_written _ _ _ _ c.in-empty.len_below plain

pub write_targets-loop-item-init : goal.write_targets-loop-item-init
write_targets-loop-item-init g t c plain = nothing _ _ plain

pub write_targets-loop-item-preserved : goal.write_targets-loop-item-preserved
write_targets-loop-item-preserved g t c plain =
    let p1 = c.loop-item.invariant plain in
    let p2 = c.in_ok-write_str-in-len1-up.ensures.writes p1.plain was_ok in
    let p3 = c.in_ok-write_target-in-len1-up-2.ensures p2.plain was_ok in
    more_written _ (λ x. codes ", " ++ printed_target x.node) _ _ _ _ _ _ c.loop-item-test.true c.item-item.is p1 (has_written_append _ _ _ _ _ _ p2 p3)

pub write_targets-returns-after-loop-item : goal.write_targets-returns-after-loop-item
write_targets-returns-after-loop-item g t c plain ok =
    let p1 = c.in_ok-write_target-in-len1-up.ensures plain was_ok in
    listed_written _ _ _ _ _ _ _ _ c.in-len1-up.len_at_least c.first-item.is c.loop-item-test.false p1 (c.loop-item.invariant p1.plain)

pub write_target_tuple-returns-in_ok-write_target-in-len1 : goal.write_target_tuple-returns-in_ok-write_target-in-len1
write_target_tuple-returns-in_ok-write_target-in-len1 g t c plain ok =
    let p1 = c.in_ok-write_str.ensures.writes plain was_ok in
    let p2 = c.in_ok-write_target-in-len1.ensures p1.plain was_ok in
    let p3 = c.write_str-in-len1.ensures.writes p2.plain ok in
    only_written _ _ _ _ _ _ _ _ c.in-len1.len_at_least c.in-len1.len_below c.only-item.is p1 p2 p3

pub write_target_tuple-returns-in_ok-write_targets-in_default : goal.write_target_tuple-returns-in_ok-write_targets-in_default
write_target_tuple-returns-in_ok-write_targets-in_default g t c plain ok =
    let p1 = c.in_ok-write_str.ensures.writes plain was_ok in
    let p2 = c.in_ok-write_targets-in_default.ensures p1.plain was_ok in
    let p3 = c.write_str-in_default.ensures.writes p2.plain ok in
    let p = has_written_append _ _ _ _ _ _ (has_written_append _ _ _ _ _ _ p1 p2) p3 in
    elim c.in_default.branch [
      | write_target_tuple-in_default-via-then-items-lt1 w ↦ none_tupled _ _ _ _ _ (ltb-true _ _ w.if-items-lt1-1.true) p
      | write_target_tuple-in_default-via-else-items-lt1+else-items-lt2 w ↦ many_tupled _ _ _ _ _ (ltb-false _ _ w.if-items-lt2-1.false) p
    ]

-- if the writer failed, nothing is promised of the text
pub write_expr-returns-in_err-write_expr-in-Dot : goal.write_expr-returns-in_err-write_expr-in-Dot
write_expr-returns-in_err-write_expr-in-Dot g t c plain ok = absurd (no_error _ c.from_residual.result c.from_residual.ensures.1 ok)

pub write_expr-returns-in_err-write_expr-in-Call : goal.write_expr-returns-in_err-write_expr-in-Call
write_expr-returns-in_err-write_expr-in-Call g t c plain ok =
    absurd (no_error _ c.from_residual-in_err-write_expr-in-Call.result c.from_residual-in_err-write_expr-in-Call.ensures.1 ok)

pub write_expr-returns-in_err-write_str-in-Call : goal.write_expr-returns-in_err-write_str-in-Call
write_expr-returns-in_err-write_str-in-Call g t c plain ok =
    absurd (no_error _ c.from_residual-in_err-write_str-in-Call.result c.from_residual-in_err-write_str-in-Call.ensures.1 ok)

pub write_expr-returns-in_err-write_arguments-in-Call : goal.write_expr-returns-in_err-write_arguments-in-Call
write_expr-returns-in_err-write_arguments-in-Call g t c plain ok =
    absurd (no_error _ c.from_residual-in_err-write_arguments-in-Call.result c.from_residual-in_err-write_arguments-in-Call.ensures.1 ok)

pub write_expr-returns-in_err-write_expr-in-Slice : goal.write_expr-returns-in_err-write_expr-in-Slice
write_expr-returns-in_err-write_expr-in-Slice g t c plain ok =
    absurd (no_error _ c.from_residual-in_err-write_expr-in-Slice.result c.from_residual-in_err-write_expr-in-Slice.ensures.1 ok)

pub write_expr-returns-in_err-write_str-in-Slice : goal.write_expr-returns-in_err-write_str-in-Slice
write_expr-returns-in_err-write_str-in-Slice g t c plain ok =
    absurd (no_error _ c.from_residual-in_err-write_str-in-Slice.result c.from_residual-in_err-write_str-in-Slice.ensures.1 ok)

pub write_expr-returns-in_err-write_if_there-in-Slice : goal.write_expr-returns-in_err-write_if_there-in-Slice
write_expr-returns-in_err-write_if_there-in-Slice g t c plain ok =
    absurd (no_error _ c.from_residual-in_err-write_if_there-in-Slice.result c.from_residual-in_err-write_if_there-in-Slice.ensures.1 ok)

pub write_expr-returns-in_err-write_str-in-Slice-2 : goal.write_expr-returns-in_err-write_str-in-Slice-2
write_expr-returns-in_err-write_str-in-Slice-2 g t c plain ok =
    absurd (no_error _ c.from_residual-in_err-write_str-in-Slice-2.result c.from_residual-in_err-write_str-in-Slice-2.ensures.1 ok)

pub write_expr-returns-in_err-write_if_there-in-Slice-2 : goal.write_expr-returns-in_err-write_if_there-in-Slice-2
write_expr-returns-in_err-write_if_there-in-Slice-2 g t c plain ok =
    absurd (no_error _ c.from_residual-in_err-write_if_there-in-Slice-2.result c.from_residual-in_err-write_if_there-in-Slice-2.ensures.1 ok)

pub write_expr-returns-in_err-write_after-in-Not : goal.write_expr-returns-in_err-write_after-in-Not
write_expr-returns-in_err-write_after-in-Not g t c plain ok =
    absurd (no_error _ c.from_residual-in_err-write_after-in-Not.result c.from_residual-in_err-write_after-in-Not.ensures.1 ok)

pub write_expr-returns-in_err-write_after-in-Op : goal.write_expr-returns-in_err-write_after-in-Op
write_expr-returns-in_err-write_after-in-Op g t c plain ok =
    absurd (no_error _ c.from_residual-in_err-write_after-in-Op.result c.from_residual-in_err-write_after-in-Op.ensures.1 ok)

pub write_expr-returns-in_err-fmt-in-Op : goal.write_expr-returns-in_err-fmt-in-Op
write_expr-returns-in_err-fmt-in-Op g t c plain ok = absurd (no_error _ c.from_residual-in_err-fmt-in-Op.result c.from_residual-in_err-fmt-in-Op.ensures.1 ok)

pub write_expr-returns-in_err-write_expr-in-Op : goal.write_expr-returns-in_err-write_expr-in-Op
write_expr-returns-in_err-write_expr-in-Op g t c plain ok =
    absurd (no_error _ c.from_residual-in_err-write_expr-in-Op.result c.from_residual-in_err-write_expr-in-Op.ensures.1 ok)

pub write_expr-returns-in_err-write_after-in-ListComprehension : goal.write_expr-returns-in_err-write_after-in-ListComprehension
write_expr-returns-in_err-write_after-in-ListComprehension g t c plain ok =
    absurd (no_error _ c.from_residual-in_err-write_after-in-ListComprehension.result c.from_residual-in_err-write_after-in-ListComprehension.ensures.1 ok)

pub write_expr-returns-in_err-write_for_clause-in-ListComprehension : goal.write_expr-returns-in_err-write_for_clause-in-ListComprehension
write_expr-returns-in_err-write_for_clause-in-ListComprehension g t c plain ok =
    absurd (no_error _ c.from_residual-in_err-write_for_clause-in-ListComprehension.result
    c.from_residual-in_err-write_for_clause-in-ListComprehension.ensures.1 ok)

pub write_expr-returns-in_err-write_clauses-in-ListComprehension : goal.write_expr-returns-in_err-write_clauses-in-ListComprehension
write_expr-returns-in_err-write_clauses-in-ListComprehension g t c plain ok =
    absurd (no_error _ c.from_residual-in_err-write_clauses-in-ListComprehension.result c.from_residual-in_err-write_clauses-in-ListComprehension.ensures.1 ok)

pub write_expr-returns-in_err-write_str-in-DictComprehension : goal.write_expr-returns-in_err-write_str-in-DictComprehension
write_expr-returns-in_err-write_str-in-DictComprehension g t c plain ok =
    absurd (no_error _ c.from_residual-in_err-write_str-in-DictComprehension.result c.from_residual-in_err-write_str-in-DictComprehension.ensures.1 ok)

pub write_expr-returns-in_err-write_pair-in-DictComprehension : goal.write_expr-returns-in_err-write_pair-in-DictComprehension
write_expr-returns-in_err-write_pair-in-DictComprehension g t c plain ok =
    absurd (no_error _ c.from_residual-in_err-write_pair-in-DictComprehension.result c.from_residual-in_err-write_pair-in-DictComprehension.ensures.1 ok)

pub write_expr-returns-in_err-write_for_clause-in-DictComprehension : goal.write_expr-returns-in_err-write_for_clause-in-DictComprehension
write_expr-returns-in_err-write_for_clause-in-DictComprehension g t c plain ok =
    absurd (no_error _ c.from_residual-in_err-write_for_clause-in-DictComprehension.result
    c.from_residual-in_err-write_for_clause-in-DictComprehension.ensures.1 ok)

pub write_expr-returns-in_err-write_clauses-in-DictComprehension : goal.write_expr-returns-in_err-write_clauses-in-DictComprehension
write_expr-returns-in_err-write_clauses-in-DictComprehension g t c plain ok =
    absurd (no_error _ c.from_residual-in_err-write_clauses-in-DictComprehension.result c.from_residual-in_err-write_clauses-in-DictComprehension.ensures.1 ok)

pub write_after-returns-in_err-write_str : goal.write_after-returns-in_err-write_str
write_after-returns-in_err-write_str g t c plain ok = absurd (no_error _ c.from_residual.result c.from_residual.ensures.1 ok)

pub write_exprs-returns-in_err-write_expr-in-len1-up : goal.write_exprs-returns-in_err-write_expr-in-len1-up
write_exprs-returns-in_err-write_expr-in-len1-up g t c plain ok = absurd (no_error _ c.from_residual.result c.from_residual.ensures.1 ok)

pub write_exprs-returns-in_err-write_after-in-len1-up : goal.write_exprs-returns-in_err-write_after-in-len1-up
write_exprs-returns-in_err-write_after-in-len1-up g t c plain ok =
    absurd (no_error _ c.from_residual-in_err-write_after-in-len1-up.result c.from_residual-in_err-write_after-in-len1-up.ensures.1 ok)

pub write_tuple-returns-in_err-write_str : goal.write_tuple-returns-in_err-write_str
write_tuple-returns-in_err-write_str g t c plain ok = absurd (no_error _ c.from_residual.result c.from_residual.ensures.1 ok)

pub write_tuple-returns-in_err-write_expr-in-len1 : goal.write_tuple-returns-in_err-write_expr-in-len1
write_tuple-returns-in_err-write_expr-in-len1 g t c plain ok =
    absurd (no_error _ c.from_residual-in_err-write_expr-in-len1.result c.from_residual-in_err-write_expr-in-len1.ensures.1 ok)

pub write_tuple-returns-in_err-write_exprs-in_default : goal.write_tuple-returns-in_err-write_exprs-in_default
write_tuple-returns-in_err-write_exprs-in_default g t c plain ok =
    absurd (no_error _ c.from_residual-in_err-write_exprs-in_default.result c.from_residual-in_err-write_exprs-in_default.ensures.1 ok)

pub write_list-returns-in_err-write_str : goal.write_list-returns-in_err-write_str
write_list-returns-in_err-write_str g t c plain ok = absurd (no_error _ c.from_residual.result c.from_residual.ensures.1 ok)

pub write_list-returns-in_err-write_exprs : goal.write_list-returns-in_err-write_exprs
write_list-returns-in_err-write_exprs g t c plain ok =
    absurd (no_error _ c.from_residual-in_err-write_exprs.result c.from_residual-in_err-write_exprs.ensures.1 ok)

pub write_index-returns-in_err-write_expr : goal.write_index-returns-in_err-write_expr
write_index-returns-in_err-write_expr g t c plain ok = absurd (no_error _ c.from_residual.result c.from_residual.ensures.1 ok)

pub write_index-returns-in_err-write_after : goal.write_index-returns-in_err-write_after
write_index-returns-in_err-write_after g t c plain ok =
    absurd (no_error _ c.from_residual-in_err-write_after.result c.from_residual-in_err-write_after.ensures.1 ok)

pub write_index2-returns-in_err-write_expr : goal.write_index2-returns-in_err-write_expr
write_index2-returns-in_err-write_expr g t c plain ok = absurd (no_error _ c.from_residual.result c.from_residual.ensures.1 ok)

pub write_index2-returns-in_err-write_after : goal.write_index2-returns-in_err-write_after
write_index2-returns-in_err-write_after g t c plain ok =
    absurd (no_error _ c.from_residual-in_err-write_after.result c.from_residual-in_err-write_after.ensures.1 ok)

pub write_index2-returns-in_err-write_after-2 : goal.write_index2-returns-in_err-write_after-2
write_index2-returns-in_err-write_after-2 g t c plain ok =
    absurd (no_error _ c.from_residual-in_err-write_after-2.result c.from_residual-in_err-write_after-2.ensures.1 ok)

pub write_conditional-returns-in_err-write_after : goal.write_conditional-returns-in_err-write_after
write_conditional-returns-in_err-write_after g t c plain ok = absurd (no_error _ c.from_residual.result c.from_residual.ensures.1 ok)

pub write_conditional-returns-in_err-write_after-2 : goal.write_conditional-returns-in_err-write_after-2
write_conditional-returns-in_err-write_after-2 g t c plain ok =
    absurd (no_error _ c.from_residual-in_err-write_after-2.result c.from_residual-in_err-write_after-2.ensures.1 ok)

pub write_conditional-returns-in_err-write_after-3 : goal.write_conditional-returns-in_err-write_after-3
write_conditional-returns-in_err-write_after-3 g t c plain ok =
    absurd (no_error _ c.from_residual-in_err-write_after-3.result c.from_residual-in_err-write_after-3.ensures.1 ok)

pub write_pair-returns-in_err-write_expr : goal.write_pair-returns-in_err-write_expr
write_pair-returns-in_err-write_expr g t c plain ok = absurd (no_error _ c.from_residual.result c.from_residual.ensures.1 ok)

pub write_pairs-returns-in_err-write_expr-in-len1-up : goal.write_pairs-returns-in_err-write_expr-in-len1-up
write_pairs-returns-in_err-write_expr-in-len1-up g t c plain ok = absurd (no_error _ c.from_residual.result c.from_residual.ensures.1 ok)

pub write_pairs-returns-in_err-write_after-in-len1-up : goal.write_pairs-returns-in_err-write_after-in-len1-up
write_pairs-returns-in_err-write_after-in-len1-up g t c plain ok =
    absurd (no_error _ c.from_residual-in_err-write_after-in-len1-up.result c.from_residual-in_err-write_after-in-len1-up.ensures.1 ok)

pub write_pairs-returns-in_err-write_after-in-len1-up-2 : goal.write_pairs-returns-in_err-write_after-in-len1-up-2
write_pairs-returns-in_err-write_after-in-len1-up-2 g t c plain ok =
    absurd (no_error _ c.from_residual-in_err-write_after-in-len1-up-2.result c.from_residual-in_err-write_after-in-len1-up-2.ensures.1 ok)

pub write_pairs-returns-in_err-write_after-in-len1-up-3 : goal.write_pairs-returns-in_err-write_after-in-len1-up-3
write_pairs-returns-in_err-write_after-in-len1-up-3 g t c plain ok =
    absurd (no_error _ c.from_residual-in_err-write_after-in-len1-up-3.result c.from_residual-in_err-write_after-in-len1-up-3.ensures.1 ok)

pub write_dict-returns-in_err-write_str : goal.write_dict-returns-in_err-write_str
write_dict-returns-in_err-write_str g t c plain ok = absurd (no_error _ c.from_residual.result c.from_residual.ensures.1 ok)

pub write_dict-returns-in_err-write_pairs : goal.write_dict-returns-in_err-write_pairs
write_dict-returns-in_err-write_pairs g t c plain ok =
    absurd (no_error _ c.from_residual-in_err-write_pairs.result c.from_residual-in_err-write_pairs.ensures.1 ok)

pub write_lambda-returns-in_err-write_str : goal.write_lambda-returns-in_err-write_str
write_lambda-returns-in_err-write_str g t c plain ok = absurd (no_error _ c.from_residual.result c.from_residual.ensures.1 ok)

pub write_lambda-returns-in_err-write_parameters : goal.write_lambda-returns-in_err-write_parameters
write_lambda-returns-in_err-write_parameters g t c plain ok =
    absurd (no_error _ c.from_residual-in_err-write_parameters.result c.from_residual-in_err-write_parameters.ensures.1 ok)

pub write_lambda-returns-in_err-write_after : goal.write_lambda-returns-in_err-write_after
write_lambda-returns-in_err-write_after g t c plain ok =
    absurd (no_error _ c.from_residual-in_err-write_after.result c.from_residual-in_err-write_after.ensures.1 ok)

pub write_f_string-returns-in_err-write_str : goal.write_f_string-returns-in_err-write_str
write_f_string-returns-in_err-write_str g t c plain ok = absurd (no_error _ c.from_residual.result c.from_residual.ensures.1 ok)

pub write_f_string-returns-in_err-write_str-2 : goal.write_f_string-returns-in_err-write_str-2
write_f_string-returns-in_err-write_str-2 g t c plain ok =
    absurd (no_error _ c.from_residual-in_err-write_str-2.result c.from_residual-in_err-write_str-2.ensures.1 ok)

pub write_f_string-returns-in_err-write_exprs : goal.write_f_string-returns-in_err-write_exprs
write_f_string-returns-in_err-write_exprs g t c plain ok =
    absurd (no_error _ c.from_residual-in_err-write_exprs.result c.from_residual-in_err-write_exprs.ensures.1 ok)

pub write_argument-returns-in_err-write_str-in-Named : goal.write_argument-returns-in_err-write_str-in-Named
write_argument-returns-in_err-write_str-in-Named g t c plain ok = absurd (no_error _ c.from_residual.result c.from_residual.ensures.1 ok)

pub write_arguments-returns-in_err-write_argument-in-len1-up : goal.write_arguments-returns-in_err-write_argument-in-len1-up
write_arguments-returns-in_err-write_argument-in-len1-up g t c plain ok = absurd (no_error _ c.from_residual.result c.from_residual.ensures.1 ok)

pub write_arguments-returns-in_err-write_str-in-len1-up : goal.write_arguments-returns-in_err-write_str-in-len1-up
write_arguments-returns-in_err-write_str-in-len1-up g t c plain ok =
    absurd (no_error _ c.from_residual-in_err-write_str-in-len1-up.result c.from_residual-in_err-write_str-in-len1-up.ensures.1 ok)

pub write_arguments-returns-in_err-write_argument-in-len1-up-2 : goal.write_arguments-returns-in_err-write_argument-in-len1-up-2
write_arguments-returns-in_err-write_argument-in-len1-up-2 g t c plain ok =
    absurd (no_error _ c.from_residual-in_err-write_argument-in-len1-up-2.result c.from_residual-in_err-write_argument-in-len1-up-2.ensures.1 ok)

pub write_parameter-returns-in_err-fmt-in-Normal : goal.write_parameter-returns-in_err-fmt-in-Normal
write_parameter-returns-in_err-fmt-in-Normal g t c plain ok = absurd (no_error _ c.from_residual.result c.from_residual.ensures.1 ok)

pub write_parameter-returns-in_err-write_type_if_there-in-Normal : goal.write_parameter-returns-in_err-write_type_if_there-in-Normal
write_parameter-returns-in_err-write_type_if_there-in-Normal g t c plain ok =
    absurd (no_error _ c.from_residual-in_err-write_type_if_there-in-Normal.result c.from_residual-in_err-write_type_if_there-in-Normal.ensures.1 ok)

pub write_parameter-returns-in_err-write_str-in-Args : goal.write_parameter-returns-in_err-write_str-in-Args
write_parameter-returns-in_err-write_str-in-Args g t c plain ok =
    absurd (no_error _ c.from_residual-in_err-write_str-in-Args.result c.from_residual-in_err-write_str-in-Args.ensures.1 ok)

pub write_parameter-returns-in_err-fmt-in-Args : goal.write_parameter-returns-in_err-fmt-in-Args
write_parameter-returns-in_err-fmt-in-Args g t c plain ok =
    absurd (no_error _ c.from_residual-in_err-fmt-in-Args.result c.from_residual-in_err-fmt-in-Args.ensures.1 ok)

pub write_parameter-returns-in_err-write_str-in-KwArgs : goal.write_parameter-returns-in_err-write_str-in-KwArgs
write_parameter-returns-in_err-write_str-in-KwArgs g t c plain ok =
    absurd (no_error _ c.from_residual-in_err-write_str-in-KwArgs.result c.from_residual-in_err-write_str-in-KwArgs.ensures.1 ok)

pub write_parameter-returns-in_err-fmt-in-KwArgs : goal.write_parameter-returns-in_err-fmt-in-KwArgs
write_parameter-returns-in_err-fmt-in-KwArgs g t c plain ok =
    absurd (no_error _ c.from_residual-in_err-fmt-in-KwArgs.result c.from_residual-in_err-fmt-in-KwArgs.ensures.1 ok)

pub write_parameters-returns-in_err-write_parameter-in-len1-up : goal.write_parameters-returns-in_err-write_parameter-in-len1-up
write_parameters-returns-in_err-write_parameter-in-len1-up g t c plain ok = absurd (no_error _ c.from_residual.result c.from_residual.ensures.1 ok)

pub write_parameters-returns-in_err-write_str-in-len1-up : goal.write_parameters-returns-in_err-write_str-in-len1-up
write_parameters-returns-in_err-write_str-in-len1-up g t c plain ok =
    absurd (no_error _ c.from_residual-in_err-write_str-in-len1-up.result c.from_residual-in_err-write_str-in-len1-up.ensures.1 ok)

pub write_parameters-returns-in_err-write_parameter-in-len1-up-2 : goal.write_parameters-returns-in_err-write_parameter-in-len1-up-2
write_parameters-returns-in_err-write_parameter-in-len1-up-2 g t c plain ok =
    absurd (no_error _ c.from_residual-in_err-write_parameter-in-len1-up-2.result c.from_residual-in_err-write_parameter-in-len1-up-2.ensures.1 ok)

pub write_for_clause-returns-in_err-write_str : goal.write_for_clause-returns-in_err-write_str
write_for_clause-returns-in_err-write_str g t c plain ok = absurd (no_error _ c.from_residual.result c.from_residual.ensures.1 ok)

pub write_for_clause-returns-in_err-write_target : goal.write_for_clause-returns-in_err-write_target
write_for_clause-returns-in_err-write_target g t c plain ok =
    absurd (no_error _ c.from_residual-in_err-write_target.result c.from_residual-in_err-write_target.ensures.1 ok)

pub write_clauses-returns-in_err-write_clause : goal.write_clauses-returns-in_err-write_clause
write_clauses-returns-in_err-write_clause g t c plain ok = absurd (no_error _ c.from_residual.result c.from_residual.ensures.1 ok)

pub write_target-returns-in_err-write_expr-in-Dot : goal.write_target-returns-in_err-write_expr-in-Dot
write_target-returns-in_err-write_expr-in-Dot g t c plain ok = absurd (no_error _ c.from_residual.result c.from_residual.ensures.1 ok)

pub write_targets-returns-in_err-write_target-in-len1-up : goal.write_targets-returns-in_err-write_target-in-len1-up
write_targets-returns-in_err-write_target-in-len1-up g t c plain ok = absurd (no_error _ c.from_residual.result c.from_residual.ensures.1 ok)

pub write_targets-returns-in_err-write_str-in-len1-up : goal.write_targets-returns-in_err-write_str-in-len1-up
write_targets-returns-in_err-write_str-in-len1-up g t c plain ok =
    absurd (no_error _ c.from_residual-in_err-write_str-in-len1-up.result c.from_residual-in_err-write_str-in-len1-up.ensures.1 ok)

pub write_targets-returns-in_err-write_target-in-len1-up-2 : goal.write_targets-returns-in_err-write_target-in-len1-up-2
write_targets-returns-in_err-write_target-in-len1-up-2 g t c plain ok =
    absurd (no_error _ c.from_residual-in_err-write_target-in-len1-up-2.result c.from_residual-in_err-write_target-in-len1-up-2.ensures.1 ok)

pub write_target_tuple-returns-in_err-write_str : goal.write_target_tuple-returns-in_err-write_str
write_target_tuple-returns-in_err-write_str g t c plain ok = absurd (no_error _ c.from_residual.result c.from_residual.ensures.1 ok)

pub write_target_tuple-returns-in_err-write_target-in-len1 : goal.write_target_tuple-returns-in_err-write_target-in-len1
write_target_tuple-returns-in_err-write_target-in-len1 g t c plain ok =
    absurd (no_error _ c.from_residual-in_err-write_target-in-len1.result c.from_residual-in_err-write_target-in-len1.ensures.1 ok)

pub write_target_tuple-returns-in_err-write_targets-in_default : goal.write_target_tuple-returns-in_err-write_targets-in_default
write_target_tuple-returns-in_err-write_targets-in_default g t c plain ok =
    absurd (no_error _ c.from_residual-in_err-write_targets-in_default.result c.from_residual-in_err-write_targets-in_default.ensures.1 ok)
