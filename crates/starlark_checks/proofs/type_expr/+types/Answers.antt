use Rattle.std.proofs.Common.{◌≡◌, ◌≤◌, Ok, length, refl, ap, sym, ◌∙◌, arith}
use Rattle.std.proofs.lemmas.List.{take_all}
use Rattle.starlark_lexer.specs.Tokens.{span_of}
use Rattle.starlark_tree.specs.Views.{all_expressions, expression_of}
use Rattle.starlark_spec.specs.Types as types
use Rattle.starlark_checks.specs.TypeViews.{form_seen, row_seen, type_seen}
use Rattle.starlark_checks.proofs.AnswerLemmas.{answers_same, refused_alike}
use Rattle.starlark_checks.proofs.RefusalLemmas.{refused_by}
use Rattle.starlark_checks.proofs.TypeForms.{by_two_read, by_two_refused, dot_is, form_is, index_by_two_is, index_is, indexed_name, list_empty, list_is}
use Rattle.starlark_checks.proofs.TypeForms.{list_more, list_one, listed_argument, literal_is, name_is, not_indexed, one_member, operands_read}
use Rattle.starlark_checks.proofs.TypeForms.{operands_refused, other_member, other_operation, part_read, part_refused, plain_argument, single_row, tuple_is}
use Rattle.starlark_checks.proofs.TypeForms.{union_read, union_refused}
use Rattle.starlark_checks.proofs.type_expr.+types.Goals as goal

pub unpack-returns : goal.unpack-returns
unpack-returns g t c = c.with_span.ensures _ _ c.form.ensures

pub form-returns-in-Identifier : goal.form-returns-in-Identifier
form-returns-in-Identifier g t c =
    record { ok = name_is (span_of c.args.x.now.span) c.args.x.now.node _ c.in-Identifier.is ∙ ap (λ p. Ok (types.PathType p)) (sym c.alone.ensures); err = tt }

pub form-returns-in-Dot : goal.form-returns-in-Dot
form-returns-in-Dot g t c =
    answers_same _ _ _ form_seen _ (dot_is (span_of c.args.x.now.span) c.args.x.now.node _ _ _ c.in-Dot.is c.deref.ensures)
    (c.path_type.ensures _ _ c.member.ensures)

pub form-returns-in-Tuple : goal.form-returns-in-Tuple
form-returns-in-Tuple g t c =
    answers_same _ _ _ form_seen _ (tuple_is (span_of c.args.x.now.span) c.args.x.now.node _ _ c.in-Tuple.is c.deref-in-Tuple.ensures.value)
    (c.tuple.ensures _ _ c.unpack_all.ensures)

pub form-returns-in-List : goal.form-returns-in-List
form-returns-in-List g t c =
    answers_same _ _ _ form_seen _ (list_is (span_of c.args.x.now.span) c.args.x.now.node _ _ c.in-List.is c.deref-in-List.ensures.value) c.list.ensures

pub form-returns-in-Index : goal.form-returns-in-Index
form-returns-in-Index g t c =
    answers_same _ _ _ form_seen _ (index_is (span_of c.args.x.now.span) c.args.x.now.node _ _ c.in-Index.is c.deref-in-Index.ensures) c.indexed.ensures

pub form-returns-in-Index2 : goal.form-returns-in-Index2
form-returns-in-Index2 g t c =
    answers_same _ _ _ form_seen _ (index_by_two_is (span_of c.args.x.now.span) c.args.x.now.node _ _ c.in-Index2.is c.deref-in-Index2.ensures)
    c.indexed_by_two.ensures

pub form-returns-in-Literal : goal.form-returns-in-Literal
form-returns-in-Literal g t c =
    answers_same _ _ _ form_seen _ (literal_is (span_of c.args.x.now.span) c.args.x.now.node _ c.in-Literal.is) c.literal_type.ensures

pub form-returns-in-Call : goal.form-returns-in-Call
form-returns-in-Call g t c =
    record { ok = tt; err = refused_by _ (form_is (span_of c.args.x.now.span) c.args.x.now.node _ c.in-Call.is) c.invalid-in-Call.ensures }

pub form-returns-in-Slice : goal.form-returns-in-Slice
form-returns-in-Slice g t c =
    record { ok = tt; err = refused_by _ (form_is (span_of c.args.x.now.span) c.args.x.now.node _ c.in-Slice.is) c.invalid-in-Slice.ensures }

pub form-returns-in-Lambda : goal.form-returns-in-Lambda
form-returns-in-Lambda g t c =
    record { ok = tt; err = refused_by _ (form_is (span_of c.args.x.now.span) c.args.x.now.node _ c.in-Lambda.is) c.invalid-in-Lambda.ensures }

pub form-returns-in-Not : goal.form-returns-in-Not
form-returns-in-Not g t c =
    record { ok = tt; err = refused_by _ (form_is (span_of c.args.x.now.span) c.args.x.now.node _ c.in-Not.is) c.invalid-in-Not.ensures }

pub form-returns-in-Minus : goal.form-returns-in-Minus
form-returns-in-Minus g t c =
    record { ok = tt; err = refused_by _ (form_is (span_of c.args.x.now.span) c.args.x.now.node _ c.in-Minus.is) c.invalid-in-Minus.ensures }

pub form-returns-in-Plus : goal.form-returns-in-Plus
form-returns-in-Plus g t c =
    record { ok = tt; err = refused_by _ (form_is (span_of c.args.x.now.span) c.args.x.now.node _ c.in-Plus.is) c.invalid-in-Plus.ensures }

pub form-returns-in-BitNot : goal.form-returns-in-BitNot
form-returns-in-BitNot g t c =
    record { ok = tt; err = refused_by _ (form_is (span_of c.args.x.now.span) c.args.x.now.node _ c.in-BitNot.is) c.invalid-in-BitNot.ensures }

pub form-returns-in-If : goal.form-returns-in-If
form-returns-in-If g t c =
    record { ok = tt; err = refused_by _ (form_is (span_of c.args.x.now.span) c.args.x.now.node _ c.in-If.is) c.invalid-in-If.ensures }

pub form-returns-in-Dict : goal.form-returns-in-Dict
form-returns-in-Dict g t c =
    record { ok = tt; err = refused_by _ (form_is (span_of c.args.x.now.span) c.args.x.now.node _ c.in-Dict.is) c.invalid-in-Dict.ensures }

pub form-returns-in-ListComprehension : goal.form-returns-in-ListComprehension
form-returns-in-ListComprehension g t c =
    record {
      ok = tt;
      err = refused_by _ (form_is (span_of c.args.x.now.span) c.args.x.now.node _ c.in-ListComprehension.is)
          c.invalid-in-ListComprehension.ensures;
    }

pub form-returns-in-DictComprehension : goal.form-returns-in-DictComprehension
form-returns-in-DictComprehension g t c =
    record {
      ok = tt;
      err = refused_by _ (form_is (span_of c.args.x.now.span) c.args.x.now.node _ c.in-DictComprehension.is)
          c.invalid-in-DictComprehension.ensures;
    }

pub form-returns-in-FString : goal.form-returns-in-FString
form-returns-in-FString g t c =
    record { ok = tt; err = refused_by _ (form_is (span_of c.args.x.now.span) c.args.x.now.node _ c.in-FString.is) c.invalid-in-FString.ensures }

pub unpack_all-loop-x-preserved : goal.unpack_all-loop-x-preserved
unpack_all-loop-x-preserved g t c =
    part_read types.reading types.readings refl (λ x xs. refl) c.args.xs.now c.loop-x.x-index c.x-item.result c.loop-x-test.true c.x-item.is
    c.loop-x.parts.items _ c.loop-x.invariant (c.in_ok-parts.ensures _ _ c.unpack.ensures).ok

pub unpack_all-returns-in_err-parts : goal.unpack_all-returns-in_err-parts
unpack_all-returns-in_err-parts g t c =
    refused_alike _ _ row_seen _ _ (part_refused types.reading types.readings refl (λ x xs. refl) c.args.xs.now c.loop-x.x-index c.x-item.result
    c.loop-x-test.true c.x-item.is c.loop-x.parts.items c.loop-x.invariant (c.in_err-parts.ensures _ _ c.unpack.ensures).err) c.from_residual.ensures.1

pub unpack_all-returns : goal.unpack_all-returns
unpack_all-returns g t c =
    record {
      ok = ap (λ es. types.readings (all_expressions es)) (sym (take_all c.loop-x.x-index c.args.xs.now c.loop-x-test.false)) ∙ c.loop-x.invariant;
      err = tt;
    }

pub all_arguments-loop-x-preserved : goal.all_arguments-loop-x-preserved
all_arguments-loop-x-preserved g t c =
    part_read types.argument types.all_arguments refl (λ x xs. refl) c.args.xs.now c.loop-x.x-index c.x-item.result c.loop-x-test.true c.x-item.is
    c.loop-x.parts.items _ c.loop-x.invariant (c.in_ok-parts.ensures _ _ c.argument.ensures).ok

pub all_arguments-returns-in_err-parts : goal.all_arguments-returns-in_err-parts
all_arguments-returns-in_err-parts g t c =
    refused_alike _ _ row_seen _ _ (part_refused types.argument types.all_arguments refl (λ x xs. refl) c.args.xs.now c.loop-x.x-index c.x-item.result
    c.loop-x-test.true c.x-item.is c.loop-x.parts.items c.loop-x.invariant (c.in_err-parts.ensures _ _ c.argument.ensures).err) c.from_residual.ensures.1

pub all_arguments-returns : goal.all_arguments-returns
all_arguments-returns g t c =
    record {
      ok = ap (λ es. types.all_arguments (all_expressions es)) (sym (take_all c.loop-x.x-index c.args.xs.now c.loop-x-test.false))
          ∙ c.loop-x.invariant;
      err = tt;
    }

pub list-returns-in-empty : goal.list-returns-in-empty
list-returns-in-empty g t c =
    let none : length c.args.xs.now ≡ 0 = omega arith in
    record { ok = tt; err = refused_by _ (list_empty (span_of c.args.span) c.args.xs.now _ none) c.type_error.ensures }

pub list-returns-in-len1 : goal.list-returns-in-len1
list-returns-in-len1 g t c =
    let one : length c.args.xs.now ≡ 1 = omega arith in
    record { ok = tt; err = refused_by _ (list_one (span_of c.args.span) c.args.xs.now _ one) c.invalid.ensures }

pub list-returns-in_default : goal.list-returns-in_default
list-returns-in_default g t c =
    let more : 2 ≤ length c.args.xs.now = omega arith in
    answers_same _ _ _ form_seen _ (list_more (span_of c.args.span) c.args.xs.now _ more) (c.union.ensures _ _ c.unpack_all.ensures)

pub indexed-returns-in-Identifier : goal.indexed-returns-in-Identifier
indexed-returns-in-Identifier g t c =
    answers_same _ _ _ form_seen _ (indexed_name (span_of c.args.parts.now.0.span) (span_of c.args.span) c.args.parts.now.0.node _ _ c.in-Identifier.is)
    (c.index_by_one.ensures _ _ c.unpack.ensures)

pub indexed-returns-in_default : goal.indexed-returns-in_default
indexed-returns-in_default g t c =
    record {
      ok = tt;
      err = refused_by _ (not_indexed (span_of c.args.parts.now.0.span) (span_of c.args.span) c.args.parts.now.0.node _
          c.in_default.not-Identifier) c.invalid.ensures;
    }

pub indexed_by_two-returns-in_err-node : goal.indexed_by_two-returns-in_err-node
indexed_by_two-returns-in_err-node g t c =
    refused_alike _ _ form_seen _ _ (by_two_refused (expression_of c.args.parts.now.0) _ _ c.in_err-node.ensures.err) c.from_residual.ensures.1

pub indexed_by_two-returns : goal.indexed_by_two-returns
indexed_by_two-returns g t c =
    answers_same _ _ _ form_seen _ (by_two_read (expression_of c.args.parts.now.0) _ _ _ c.in_ok-node.ensures.ok)
    (c.index_by_two.ensures _ _ _ c.argument-first.ensures c.argument-second.ensures)

pub argument-returns-in-List : goal.argument-returns-in-List
argument-returns-in-List g t c =
    answers_same _ _ _ type_seen _ (listed_argument (span_of c.args.x.now.span) c.args.x.now.node _ _ c.in-List.is c.deref.ensures.value)
    (c.with_span.ensures _ _ (c.type_list.ensures _ _ c.all_arguments.ensures))

pub argument-returns-in_default : goal.argument-returns-in_default
argument-returns-in_default g t c =
    answers_same _ _ _ type_seen _ (plain_argument (span_of c.args.x.now.span) c.args.x.now.node c.in_default.not-List) c.unpack.ensures

pub form-returns-in_ok-left-in-BitOr : goal.form-returns-in_ok-left-in-BitOr
form-returns-in_ok-left-in-BitOr g t c =
    answers_same _ _ _ form_seen _ (union_read (span_of c.args.x.now.span) c.args.x.now.node _ _ _ _ _ _ c.in-Op.is c.in-BitOr.is c.deref-in-BitOr.ensures
    c.deref-in-BitOr-2.ensures c.in_ok-left-in-BitOr.ensures.ok) (c.union.ensures _ _ (c.joined.ensures _ _ c.operands-in-BitOr.ensures))

pub form-returns-in_err-left-in-BitOr : goal.form-returns-in_err-left-in-BitOr
form-returns-in_err-left-in-BitOr g t c =
    refused_alike _ _ form_seen _ _ (union_refused (span_of c.args.x.now.span) c.args.x.now.node _ _ _ _ c.in-Op.is c.in-BitOr.is c.deref-in-BitOr.ensures
    c.in_err-left-in-BitOr.ensures.err) c.from_residual.ensures.1

pub operands-returns-in_ok-before-in-BitOr : goal.operands-returns-in_ok-before-in-BitOr
operands-returns-in_ok-before-in-BitOr g t c =
    answers_same _ _ _ row_seen _ (operands_read (span_of c.args.x.now.span) c.args.x.now.node _ _ _ _ _ _ c.in-Op.is c.in-BitOr.is c.deref.ensures
    c.deref-in-BitOr.ensures c.in_ok-before-in-BitOr.ensures.ok) (c.joined.ensures _ _ c.operands-in-BitOr.ensures)

pub operands-returns-in_err-before-in-BitOr : goal.operands-returns-in_err-before-in-BitOr
operands-returns-in_err-before-in-BitOr g t c =
    refused_alike _ _ row_seen _ _ (operands_refused (span_of c.args.x.now.span) c.args.x.now.node _ _ _ _ c.in-Op.is c.in-BitOr.is c.deref.ensures
    c.in_err-before-in-BitOr.ensures.err) c.from_residual.ensures.1

pub form-returns-in_default : goal.form-returns-in_default
form-returns-in_default g t c =
    record {
      ok = tt;
      err = refused_by _ (other_operation (span_of c.args.x.now.span) c.args.x.now.node _ _ _ c.in-Op.is c.in_default.not-BitOr)
          c.invalid.ensures;
    }

pub operands-returns-in_default : goal.operands-returns-in_default
operands-returns-in_default g t c =
    answers_same _ _ _ row_seen _ (one_member (span_of c.args.x.now.span) c.args.x.now.node c.in_default.not-Op (types.reading (expression_of c.args.x.now))
    ∙ single_row _ _ c.new-in_default.ensures.items) (c.with-in_default.ensures _ _ c.unpack-in_default.ensures)

pub operands-returns-in_default-op : goal.operands-returns-in_default-op
operands-returns-in_default-op g t c =
    answers_same _ _ _ row_seen _ (other_member (span_of c.args.x.now.span) c.args.x.now.node _ _ _ c.in-Op.is c.in_default-op.not-BitOr
    (types.reading (expression_of c.args.x.now)) ∙ single_row _ _ c.new.ensures.items) (c.with.ensures _ _ c.unpack.ensures)
