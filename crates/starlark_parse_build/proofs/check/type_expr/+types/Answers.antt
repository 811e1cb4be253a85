use Rattle.std.proofs.Common.{◌≡◌, ◌≤◌, length, refl, ap, sym, ◌∙◌, arith}
use Rattle.std.proofs.lemmas.List.{take_all}
use Rattle.std.specs.Option.{option_or}
use Rattle.starlark_lexer.specs.Tokens.{span_of}
use Rattle.starlark_tree.specs.Views.{all_expressions, expression_of}
use Rattle.starlark_spec.specs.Machine.Faults.{fault_of}
use Rattle.starlark_spec.specs.Types as types
use Rattle.starlark_parse_build.proofs.CheckLemmas.FaultLemmas.{finds_same, finds_second, found_alike, names_first, names_same}
use Rattle.starlark_parse_build.proofs.CheckLemmas.TypeForms.{form_fault, name_fault, dot_fault, tuple_fault, list_fault, union_fault, operator_fault}
use Rattle.starlark_parse_build.proofs.CheckLemmas.TypeForms.{index_fault}
use Rattle.starlark_parse_build.proofs.CheckLemmas.TypeForms.{index_by_two_fault, literal_fault, listed_fault, plain_fault, named_fault, unnamed_fault}
use Rattle.starlark_parse_build.proofs.CheckLemmas.TypeForms.{empty_fault}
use Rattle.starlark_parse_build.proofs.CheckLemmas.TypeForms.{alone_fault, several_fault, by_two_fault, part_kept, part_found, readings_more, arguments_more}
use Rattle.starlark_parse_build.proofs.check.type_expr.+types.Goals as goal

pub read-returns-in-Identifier : goal.read-returns-in-Identifier
read-returns-in-Identifier t c = name_fault (span_of c.args.x.now.span) c.args.x.now.node _ c.in-Identifier.is

pub read-returns-in-Dot : goal.read-returns-in-Dot
read-returns-in-Dot t c = finds_same _ _ _ (dot_fault (span_of c.args.x.now.span) c.args.x.now.node _ _ _ c.in-Dot.is c.deref.ensures) c.member.ensures

pub read-returns-in-Tuple : goal.read-returns-in-Tuple
read-returns-in-Tuple t c = finds_same _ _ _ (tuple_fault (span_of c.args.x.now.span) c.args.x.now.node _ _ c.in-Tuple.is c.deref-in-Tuple.ensures.value)
    c.read_all.ensures

pub read-returns-in-List : goal.read-returns-in-List
read-returns-in-List t c = finds_same _ _ _ (list_fault (span_of c.args.x.now.span) c.args.x.now.node _ _ c.in-List.is c.deref-in-List.ensures.value)
    c.list.ensures

pub read-returns-in-Index : goal.read-returns-in-Index
read-returns-in-Index t c = finds_same _ _ _ (index_fault (span_of c.args.x.now.span) c.args.x.now.node _ _ c.in-Index.is c.deref-in-Index.ensures)
    c.indexed.ensures

pub read-returns-in-Index2 : goal.read-returns-in-Index2
read-returns-in-Index2 t c = finds_same _ _ _ (index_by_two_fault (span_of c.args.x.now.span) c.args.x.now.node _ _ c.in-Index2.is c.deref-in-Index2.ensures)
    c.indexed_by_two.ensures

pub read-returns-in-Literal : goal.read-returns-in-Literal
read-returns-in-Literal t c = finds_same _ _ _ (literal_fault (span_of c.args.x.now.span) c.args.x.now.node _ c.in-Literal.is) c.literal.ensures

pub read-returns-in-Call : goal.read-returns-in-Call
read-returns-in-Call t c = names_same _ _ _ (λ x is. sym (form_fault (span_of c.args.x.now.span) c.args.x.now.node _ c.in-Call.is)
    ∙ is) c.invalid-in-Call.ensures

pub read-returns-in-Slice : goal.read-returns-in-Slice
read-returns-in-Slice t c = names_same _ _ _ (λ x is. sym (form_fault (span_of c.args.x.now.span) c.args.x.now.node _ c.in-Slice.is)
    ∙ is) c.invalid-in-Slice.ensures

pub read-returns-in-Lambda : goal.read-returns-in-Lambda
read-returns-in-Lambda t c = names_same _ _ _ (λ x is. sym (form_fault (span_of c.args.x.now.span) c.args.x.now.node _ c.in-Lambda.is)
    ∙ is) c.invalid-in-Lambda.ensures

pub read-returns-in-Not : goal.read-returns-in-Not
read-returns-in-Not t c = names_same _ _ _ (λ x is. sym (form_fault (span_of c.args.x.now.span) c.args.x.now.node _ c.in-Not.is) ∙ is) c.invalid-in-Not.ensures

pub read-returns-in-Minus : goal.read-returns-in-Minus
read-returns-in-Minus t c = names_same _ _ _ (λ x is. sym (form_fault (span_of c.args.x.now.span) c.args.x.now.node _ c.in-Minus.is)
    ∙ is) c.invalid-in-Minus.ensures

pub read-returns-in-Plus : goal.read-returns-in-Plus
read-returns-in-Plus t c = names_same _ _ _ (λ x is. sym (form_fault (span_of c.args.x.now.span) c.args.x.now.node _ c.in-Plus.is)
    ∙ is) c.invalid-in-Plus.ensures

pub read-returns-in-BitNot : goal.read-returns-in-BitNot
read-returns-in-BitNot t c = names_same _ _ _ (λ x is. sym (form_fault (span_of c.args.x.now.span) c.args.x.now.node _ c.in-BitNot.is)
    ∙ is) c.invalid-in-BitNot.ensures

pub read-returns-in-If : goal.read-returns-in-If
read-returns-in-If t c = names_same _ _ _ (λ x is. sym (form_fault (span_of c.args.x.now.span) c.args.x.now.node _ c.in-If.is) ∙ is) c.invalid-in-If.ensures

pub read-returns-in-Dict : goal.read-returns-in-Dict
read-returns-in-Dict t c = names_same _ _ _ (λ x is. sym (form_fault (span_of c.args.x.now.span) c.args.x.now.node _ c.in-Dict.is)
    ∙ is) c.invalid-in-Dict.ensures

pub read-returns-in-ListComprehension : goal.read-returns-in-ListComprehension
read-returns-in-ListComprehension t c = names_same _ _ _ (λ x is. sym (form_fault (span_of c.args.x.now.span) c.args.x.now.node _ c.in-ListComprehension.is)
    ∙ is) c.invalid-in-ListComprehension.ensures

pub read-returns-in-DictComprehension : goal.read-returns-in-DictComprehension
read-returns-in-DictComprehension t c = names_same _ _ _ (λ x is. sym (form_fault (span_of c.args.x.now.span) c.args.x.now.node _ c.in-DictComprehension.is)
    ∙ is) c.invalid-in-DictComprehension.ensures

pub read-returns-in-FString : goal.read-returns-in-FString
read-returns-in-FString t c = names_same _ _ _ (λ x is. sym (form_fault (span_of c.args.x.now.span) c.args.x.now.node _ c.in-FString.is)
    ∙ is) c.invalid-in-FString.ensures

pub read_all-loop-x-preserved : goal.read_all-loop-x-preserved
read_all-loop-x-preserved t c =
    part_kept (λ e. fault_of (types.reading e)) (λ es. fault_of (types.readings es)) refl readings_more c.args.xs.now c.loop-x.x-index c.x-item.result
    c.loop-x-test.true c.x-item.is c.loop-x.invariant c.in_ok-read.ensures

pub read_all-returns-in_err-read : goal.read_all-returns-in_err-read
read_all-returns-in_err-read t c =
    found_alike _ _ _ (part_found (λ e. fault_of (types.reading e)) (λ es. fault_of (types.readings es)) refl readings_more c.args.xs.now c.loop-x.x-index
    c.x-item.result c.loop-x-test.true c.x-item.is c.loop-x.invariant _ c.in_err-read.ensures) c.from_residual.ensures.1

pub read_all-returns : goal.read_all-returns
read_all-returns t c = ap (λ es. fault_of (types.readings (all_expressions es))) (sym (take_all c.loop-x.x-index c.args.xs.now c.loop-x-test.false))
    ∙ c.loop-x.invariant

pub all_arguments-loop-x-preserved : goal.all_arguments-loop-x-preserved
all_arguments-loop-x-preserved t c =
    part_kept (λ e. fault_of (types.argument e)) (λ es. fault_of (types.all_arguments es)) refl arguments_more c.args.xs.now c.loop-x.x-index c.x-item.result
    c.loop-x-test.true c.x-item.is c.loop-x.invariant c.in_ok-argument.ensures

pub all_arguments-returns-in_err-argument : goal.all_arguments-returns-in_err-argument
all_arguments-returns-in_err-argument t c =
    found_alike _ _ _ (part_found (λ e. fault_of (types.argument e)) (λ es. fault_of (types.all_arguments es)) refl arguments_more c.args.xs.now
    c.loop-x.x-index c.x-item.result c.loop-x-test.true c.x-item.is c.loop-x.invariant _ c.in_err-argument.ensures) c.from_residual.ensures.1

pub all_arguments-returns : goal.all_arguments-returns
all_arguments-returns t c = ap (λ es. fault_of (types.all_arguments (all_expressions es))) (sym (take_all c.loop-x.x-index c.args.xs.now c.loop-x-test.false))
    ∙ c.loop-x.invariant

pub list-returns-in-empty : goal.list-returns-in-empty
list-returns-in-empty t c =
    let none : length c.args.xs.now ≡ 0 = omega arith in
    sym (empty_fault (span_of c.args.span) c.args.xs.now _ none)

pub list-returns-in-len1 : goal.list-returns-in-len1
list-returns-in-len1 t c =
    let one : length c.args.xs.now ≡ 1 = omega arith in
    names_same _ _ _ (λ x is. sym (alone_fault (span_of c.args.span) c.args.xs.now _ one) ∙ is) c.invalid.ensures

pub list-returns-in_default : goal.list-returns-in_default
list-returns-in_default t c =
    let more : 2 ≤ length c.args.xs.now = omega arith in
    finds_same _ _ _ (several_fault (span_of c.args.span) c.args.xs.now _ more) c.read_all.ensures

pub indexed-returns-in-Identifier : goal.indexed-returns-in-Identifier
indexed-returns-in-Identifier t c = finds_same _ _ _ (named_fault (span_of c.args.parts.now.0.span) (span_of c.args.span) c.args.parts.now.0.node _
    (expression_of c.args.parts.now.1) c.in-Identifier.is) c.read.ensures

pub indexed-returns-in_default : goal.indexed-returns-in_default
indexed-returns-in_default t c =
    names_same _ _ _ (λ x is. sym (unnamed_fault (span_of c.args.parts.now.0.span) (span_of c.args.span) c.args.parts.now.0.node _
    c.in_default.not-Identifier) ∙ is) c.invalid.ensures

pub argument-returns-in-List : goal.argument-returns-in-List
argument-returns-in-List t c = finds_same _ _ _ (listed_fault (span_of c.args.x.now.span) c.args.x.now.node _ _ c.in-List.is c.deref.ensures.value)
    c.all_arguments.ensures

pub argument-returns-in_default : goal.argument-returns-in_default
argument-returns-in_default t c = finds_same _ _ _ (plain_fault (span_of c.args.x.now.span) c.args.x.now.node c.in_default.not-List) c.read.ensures

pub read-returns-in_default : goal.read-returns-in_default
read-returns-in_default t c =
    names_same _ _ _ (λ x is. sym (operator_fault (span_of c.args.x.now.span) c.args.x.now.node _ _ _ c.in-Op.is c.in_default.not-BitOr) ∙ is) c.invalid.ensures

pub read-returns-in_err-read-in-BitOr : goal.read-returns-in_err-read-in-BitOr
read-returns-in_err-read-in-BitOr t c =
    let whole = union_fault (span_of c.args.x.now.span) c.args.x.now.node _ _ _ _ _ c.in-Op.is c.in-BitOr.is c.deref-in-BitOr.ensures refl in
    found_alike _ _ _ (names_same _ _ _ (λ x is. sym whole ∙ is) (names_first _ _ _ c.in_err-read-in-BitOr.ensures)) c.from_residual.ensures.1

pub read-returns-in_ok-read-in-BitOr : goal.read-returns-in_ok-read-in-BitOr
read-returns-in_ok-read-in-BitOr t c =
    finds_second _ _ _ _ c.in_ok-read-in-BitOr.ensures
    (union_fault (span_of c.args.x.now.span) c.args.x.now.node _ _ _ _ _ c.in-Op.is c.in-BitOr.is c.deref-in-BitOr.ensures c.deref-in-BitOr-2.ensures)
    c.read-in-BitOr.ensures

pub indexed_by_two-returns : goal.indexed_by_two-returns
indexed_by_two-returns t c =
    let first = types.argument (expression_of c.args.parts.now.1) in
    let second = types.argument (expression_of c.args.parts.now.2) in
    finds_second _ (option_or (fault_of first) (fault_of second)) _ _ c.in_ok-path.ensures (by_two_fault (expression_of c.args.parts.now.0) first second)
    (finds_second (fault_of first) (fault_of second) _ _ c.in_ok-argument.ensures refl c.argument-2.ensures)

pub indexed_by_two-returns-in_err-argument : goal.indexed_by_two-returns-in_err-argument
indexed_by_two-returns-in_err-argument t c =
    let first = types.argument (expression_of c.args.parts.now.1) in
    let second = types.argument (expression_of c.args.parts.now.2) in
    let whole = by_two_fault (expression_of c.args.parts.now.0) first second in
    found_alike _ _ _
    (names_same _ _ _ (λ x is. sym whole ∙ ap (λ o. option_or o (option_or (fault_of first) (fault_of second))) c.in_ok-path.ensures ∙ is)
    (names_first (fault_of first) (fault_of second) _ c.in_err-argument.ensures)) c.from_residual-in_err-argument.ensures.1
