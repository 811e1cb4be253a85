use denote.Builtin.{unit}
use denote.Enum.Declared.{Record}
use borrow.Enum.Total.{values_d}
use Rattle.std.proofs.Common.{◌≡◌, ◌++◌, length, map, sym, ap, ◌∙◌, arith}
use Rattle.std.specs.Vec.{with_items}
use Rattle.starlark_lexer.specs.Tokens.{span_of}
use Rattle.starlark_tree.specs.Ast as t
use Rattle.starlark_tree.specs.Inside.{below, inside, for_inside}
use Rattle.starlark_tree.specs.Views.{clause_seen, expression_of, for_in_of, pair_of, parameter_of, shape_seen, word}
use Rattle.starlark_tree.specs.contracts.ast.ExprP.{enum}
use Rattle.starlark_tree.specs.contracts.ast.payload.AstNoPayload as no_payload
use Rattle.starlark_tree.specs.declared.ast.ExprP as exprs
use Rattle.starlark_tree.proofs.Rows.{arguments_seen_of}
use Rattle.starlark_passes.specs.Replace.Parts.{Replaces, below_shape}
use Rattle.starlark_passes.specs.Replace.Replacing.{table_of}
use Rattle.starlark_passes.proofs.ReplaceLemmas.Entered.{at_same}
use Rattle.starlark_passes.proofs.ReplaceLemmas.Nodes.{tuple_old, tuple_new, list_old, list_new, dict_old, dict_new, lambda_old, lambda_seen, f_string_old}
use Rattle.starlark_passes.proofs.ReplaceLemmas.Nodes.{f_string_new}
use Rattle.starlark_passes.proofs.ReplaceLemmas.Nodes.{call_old, list_comprehension_old, dict_comprehension_old, clauses_new}
use Rattle.starlark_passes.proofs.ReplaceLemmas.Shapes.{seen_as, in_tuple, in_list, in_dict, in_lambda, in_f_string, in_call, in_list_comprehension}
use Rattle.starlark_passes.proofs.ReplaceLemmas.Shapes.{in_dict_comprehension}
use Rattle.starlark_passes.proofs.ReplaceLemmas.Shapes.{inside_expressions, inside_pairs, inside_parameters, inside_arguments, inside_clauses}
use Rattle.starlark_tree.proofs.LentParts.{left_in}
use Rattle.starlark_passes.proofs.replace.rules.Rules.below.Goals as goal

abbrev code : Record
code = enum no_payload.the_row unit unit unit unit unit

pub each-requires : goal.each-requires
each-requires g c = at_same (sym (ap below (tuple_old c.args.expr.now c.in-Tuple.items _ c.deref_mut.result.now c.in-Tuple.is c.deref_mut.ensures.value
    c.in-Tuple.items-is) ∙ inside_expressions (map expression_of c.deref_mut.result.now))) c.requires

pub returns-in-Tuple : goal.returns-in-Tuple
returns-in-Tuple g c =
    let e = ap length (c.deref_mut.ensures.value ∙ ap (λ u. u.items) c.in-Tuple.items-is) in
    let kept : length c.each.new.exprs ≡ length c.in-Tuple.items.items = omega (arith, e, c.each.auto.exprs) in
    left_in code 0 (λ v y. exprs.Tuple y) (λ v. v.0) (λ b. with_items b c.each.new.exprs) (λ e. Replaces (table_of c.args.self.now.replacements.now)
    (below_shape (table_of c.args.self.now.replacements.now)) c.each.result (shape_seen c.args.expr.now) (shape_seen e)) c.args.expr.now
    (c.in-Tuple.items, tt) c.in-Tuple.is
    (seen_as (tuple_old c.args.expr.now c.in-Tuple.items _ c.deref_mut.result.now c.in-Tuple.is c.deref_mut.ensures.value c.in-Tuple.items-is)
    (tuple_new c.in-Tuple.items c.each.new.exprs kept) (in_tuple c.each.ensures))

pub each-requires-in-List : goal.each-requires-in-List
each-requires-in-List g c = at_same (sym (ap below (list_old c.args.expr.now c.in-List.items _ c.deref_mut-in-List.result.now c.in-List.is
    c.deref_mut-in-List.ensures.value c.in-List.items-is) ∙ inside_expressions (map expression_of c.deref_mut-in-List.result.now))) c.requires

pub returns-in-List : goal.returns-in-List
returns-in-List g c =
    let e = ap length (c.deref_mut-in-List.ensures.value ∙ ap (λ u. u.items) c.in-List.items-is) in
    let kept : length c.each-in-List.new.exprs ≡ length c.in-List.items.items = omega (arith, e, c.each-in-List.auto.exprs) in
    left_in code 15 (λ v y. exprs.List y) (λ v. v.0) (λ b. with_items b c.each-in-List.new.exprs) (λ e. Replaces (table_of c.args.self.now.replacements.now)
    (below_shape (table_of c.args.self.now.replacements.now)) c.each-in-List.result (shape_seen c.args.expr.now) (shape_seen e)) c.args.expr.now
    (c.in-List.items, tt) c.in-List.is
    (seen_as (list_old c.args.expr.now c.in-List.items _ c.deref_mut-in-List.result.now c.in-List.is c.deref_mut-in-List.ensures.value c.in-List.items-is)
    (list_new c.in-List.items c.each-in-List.new.exprs kept) (in_list c.each-in-List.ensures))

pub entries-requires : goal.entries-requires
entries-requires g c = at_same (sym (ap below (dict_old c.args.expr.now c.in-Dict.entries _ c.deref_mut-in-Dict.result.now c.in-Dict.is
    c.deref_mut-in-Dict.ensures.value c.in-Dict.entries-is) ∙ inside_pairs (map pair_of c.deref_mut-in-Dict.result.now))) c.requires

pub returns-in-Dict : goal.returns-in-Dict
returns-in-Dict g c =
    let e = ap length (c.deref_mut-in-Dict.ensures.value ∙ ap (λ u. u.items) c.in-Dict.entries-is) in
    let kept : length c.entries.new.entries ≡ length c.in-Dict.entries.items = omega (arith, e, c.entries.auto.entries) in
    left_in code 16 (λ v y. exprs.Dict y) (λ v. v.0) (λ b. with_items b c.entries.new.entries) (λ e. Replaces (table_of c.args.self.now.replacements.now)
    (below_shape (table_of c.args.self.now.replacements.now)) c.entries.result (shape_seen c.args.expr.now) (shape_seen e)) c.args.expr.now
    (c.in-Dict.entries, tt) c.in-Dict.is
    (seen_as (dict_old c.args.expr.now c.in-Dict.entries _ c.deref_mut-in-Dict.result.now c.in-Dict.is c.deref_mut-in-Dict.ensures.value c.in-Dict.entries-is)
    (dict_new c.in-Dict.entries c.entries.new.entries kept) (in_dict c.entries.ensures))

pub lambda-requires : goal.lambda-requires
lambda-requires g c = at_same (sym (ap below (lambda_old c.args.expr.now c.in-Lambda.lambda _ c.in-Lambda.is c.in-Lambda.lambda-is)
    ∙ ap (λ l. l ++ inside (expression_of (values_d code 7 (c.in-Lambda.lambda, tt) c.args.expr.now).0.body.value))
    (inside_parameters (map parameter_of (values_d code 7 (c.in-Lambda.lambda, tt) c.args.expr.now).0.params.items)))) c.requires

pub returns-in-Lambda : goal.returns-in-Lambda
returns-in-Lambda g c =
    left_in code 7 (λ v y. exprs.Lambda y) (λ v. v.0) (λ b. c.lambda.new.lambda) (λ e. Replaces (table_of c.args.self.now.replacements.now)
    (below_shape (table_of c.args.self.now.replacements.now)) c.lambda.result (shape_seen c.args.expr.now) (shape_seen e)) c.args.expr.now
    (c.in-Lambda.lambda, tt) c.in-Lambda.is
    (seen_as (lambda_old c.args.expr.now c.in-Lambda.lambda _ c.in-Lambda.is c.in-Lambda.lambda-is) (lambda_seen c.lambda.new.lambda)
    (in_lambda tt c.lambda.ensures))

pub format-requires : goal.format-requires
format-requires g c = at_same (sym (ap below (f_string_old c.args.expr.now c.in-FString.string (values_d code 19 (c.in-FString.string, tt) c.args.expr.now).0
    c.in-FString.is c.in-FString.string-is) ∙ inside_expressions _)) c.requires

pub returns-in-FString : goal.returns-in-FString
returns-in-FString g c =
    left_in code 19 (λ v y. exprs.FString y) (λ v. v.0) (λ b. c.format.new.string) (λ e. Replaces (table_of c.args.self.now.replacements.now)
    (below_shape (table_of c.args.self.now.replacements.now)) c.format.result (shape_seen c.args.expr.now) (shape_seen e)) c.args.expr.now
    (c.in-FString.string, tt) c.in-FString.is
    (seen_as (f_string_old c.args.expr.now c.in-FString.string (values_d code 19 (c.in-FString.string, tt) c.args.expr.now).0 c.in-FString.is
    c.in-FString.string-is) (f_string_new c.format.new.string (values_d code 19 (c.in-FString.string, tt) c.args.expr.now).0 c.format.ensures.format
    c.format.ensures.span) (in_f_string (span_of (values_d code 19 (c.in-FString.string, tt) c.args.expr.now).0.span)
    (word (values_d code 19 (c.in-FString.string, tt) c.args.expr.now).0.node.format) c.format.ensures.replaced))

pub call-requires : goal.call-requires
call-requires g c = at_same (sym (ap below (call_old c.args.expr.now c.in-Call.callee _ c.in-Call.arguments _ c.deref_mut-in-Call.result.now c.in-Call.is
    c.deref_mut-in-Call.ensures.value c.in-Call.callee-is c.in-Call.arguments-is) ∙ ap (λ l. inside (expression_of c.deref_mut-in-Call.result.now) ++ l)
    (inside_arguments _))) c.requires

pub returns-in-Call : goal.returns-in-Call
returns-in-Call g c = seen_as (call_old c.args.expr.now c.in-Call.callee _ c.in-Call.arguments _ c.deref_mut-in-Call.result.now c.in-Call.is
    c.deref_mut-in-Call.ensures.value c.in-Call.callee-is c.in-Call.arguments-is)
    (ap (t.Call (expression_of c.call.new.callee)) (arguments_seen_of c.call.new.arguments.args)) (in_call c.call.ensures)

pub list_comprehension-requires : goal.list_comprehension-requires
list_comprehension-requires g c = at_same (sym (ap below (list_comprehension_old c.args.expr.now c.in-ListComprehension.element _ c.in-ListComprehension.first
    _ c.in-ListComprehension.clauses _ c.deref_mut-in-ListComprehension.result.now c.deref_mut-in-ListComprehension-2.result.now
    c.deref_mut-in-ListComprehension-3.result.now c.in-ListComprehension.is c.deref_mut-in-ListComprehension.ensures.value c.in-ListComprehension.element-is
    c.deref_mut-in-ListComprehension-2.ensures.value c.in-ListComprehension.first-is c.deref_mut-in-ListComprehension-3.ensures.value
    c.in-ListComprehension.clauses-is) ∙ ap (λ l. for_inside (for_in_of c.deref_mut-in-ListComprehension-2.result.now)
    ++ (l ++ inside (expression_of c.deref_mut-in-ListComprehension.result.now)))
    (inside_clauses (map clause_seen c.deref_mut-in-ListComprehension-3.result.now)))) c.requires

pub returns-in-ListComprehension : goal.returns-in-ListComprehension
returns-in-ListComprehension g c =
    let e = ap length (c.deref_mut-in-ListComprehension-3.ensures.value ∙ ap (λ u. u.items) c.in-ListComprehension.clauses-is) in
    let kept : length c.list_comprehension.new.clauses ≡ length c.in-ListComprehension.clauses.items = omega (arith, e, c.list_comprehension.auto.clauses) in
    seen_as (list_comprehension_old c.args.expr.now c.in-ListComprehension.element _ c.in-ListComprehension.first _ c.in-ListComprehension.clauses _
    c.deref_mut-in-ListComprehension.result.now c.deref_mut-in-ListComprehension-2.result.now c.deref_mut-in-ListComprehension-3.result.now
    c.in-ListComprehension.is c.deref_mut-in-ListComprehension.ensures.value c.in-ListComprehension.element-is
    c.deref_mut-in-ListComprehension-2.ensures.value c.in-ListComprehension.first-is c.deref_mut-in-ListComprehension-3.ensures.value
    c.in-ListComprehension.clauses-is) (ap (t.ListComprehension (expression_of c.list_comprehension.new.element)
    (for_in_of c.list_comprehension.new.first)) (clauses_new c.in-ListComprehension.clauses _ c.list_comprehension.new.clauses
    c.in-ListComprehension.clauses-is kept)) (in_list_comprehension c.list_comprehension.ensures)

pub dict_comprehension-requires : goal.dict_comprehension-requires
dict_comprehension-requires g c = at_same (sym (ap below (dict_comprehension_old c.args.expr.now c.in-DictComprehension.entry _ c.in-DictComprehension.first _
    c.in-DictComprehension.clauses _ c.deref_mut-in-DictComprehension.result.now c.deref_mut-in-DictComprehension-2.result.now
    c.deref_mut-in-DictComprehension-3.result.now c.in-DictComprehension.is c.deref_mut-in-DictComprehension.ensures.value c.in-DictComprehension.entry-is
    c.deref_mut-in-DictComprehension-2.ensures.value c.in-DictComprehension.first-is c.deref_mut-in-DictComprehension-3.ensures.value
    c.in-DictComprehension.clauses-is) ∙ ap (λ l. for_inside (for_in_of c.deref_mut-in-DictComprehension-2.result.now)
    ++ (l ++ (inside (expression_of c.deref_mut-in-DictComprehension.result.now.0) ++ inside (expression_of c.deref_mut-in-DictComprehension.result.now.1))))
    (inside_clauses (map clause_seen c.deref_mut-in-DictComprehension-3.result.now)))) c.requires

pub returns-in-DictComprehension : goal.returns-in-DictComprehension
returns-in-DictComprehension g c =
    let e = ap length (c.deref_mut-in-DictComprehension-3.ensures.value ∙ ap (λ u. u.items) c.in-DictComprehension.clauses-is) in
    let kept : length c.dict_comprehension.new.clauses ≡ length c.in-DictComprehension.clauses.items = omega (arith, e, c.dict_comprehension.auto.clauses) in
    seen_as (dict_comprehension_old c.args.expr.now c.in-DictComprehension.entry _ c.in-DictComprehension.first _ c.in-DictComprehension.clauses _
    c.deref_mut-in-DictComprehension.result.now c.deref_mut-in-DictComprehension-2.result.now c.deref_mut-in-DictComprehension-3.result.now
    c.in-DictComprehension.is c.deref_mut-in-DictComprehension.ensures.value c.in-DictComprehension.entry-is
    c.deref_mut-in-DictComprehension-2.ensures.value c.in-DictComprehension.first-is c.deref_mut-in-DictComprehension-3.ensures.value
    c.in-DictComprehension.clauses-is) (ap (t.DictComprehension (expression_of c.dict_comprehension.new.entry.0)
    (expression_of c.dict_comprehension.new.entry.1) (for_in_of c.dict_comprehension.new.first))
    (clauses_new c.in-DictComprehension.clauses _ c.dict_comprehension.new.clauses c.in-DictComprehension.clauses-is kept))
    (in_dict_comprehension c.dict_comprehension.ensures)
