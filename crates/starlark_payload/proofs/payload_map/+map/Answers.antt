use Rattle.std.proofs.Common.{arith, refl}
use Rattle.starlark_payload.proofs.FunctionLemmas.Loops.{all_mapped, next_made, none_mapped}
use Rattle.starlark_payload.proofs.Loops.{item_below, item_smaller}
use Rattle.starlark_payload.proofs.Made.{held_from, out_of, then_made}
use Rattle.starlark_payload.proofs.Parts.{maps_arguments, maps_boxed, maps_clauses, maps_first, maps_for_and_clauses}
use Rattle.starlark_payload.proofs.Parts.{maps_pair, maps_spanned, maps_three, maps_two, shape_is}
use Rattle.starlark_payload.proofs.Rows.{call_mapped, dict_comprehension_mapped, dict_mapped, f_string_mapped, list_comprehension_mapped, list_mapped}
use Rattle.starlark_payload.proofs.Rows.{slice_made, target_tuple_mapped, tuple_mapped}
use Rattle.starlark_payload.proofs.Parameters.{args_mapped, kwargs_mapped, lambda_made, normal_made, placed_at}
use Rattle.starlark_payload.specs.Function.Mapped.{MapsArgument, MapsClause, MapsForIn, MapsMaybeType, MapsParameter, MapsTarget}
use Rattle.starlark_tree.specs.Views.{argument_of, argument_seen, clause_seen, for_in_of, parameter_of, parameter_seen, target_of, target_seen, type_of}
use Rattle.starlark_payload.proofs.payload_map.+map.Goals as goal

pub expression::map_pairs-map_two-requires : goal.expression::map_pairs-map_two-requires
expression::map_pairs-map_two-requires g t c κs within = (
  item_below c.args.pairs.items c.loop-pair.invariant.0 c.loop-pair.mapping c.next.new.self c.next.result c.loop-pair.invariant.1 c.next.ensures.some
      c.in-Some.pair _ 6 2 3 t c.in-Some.is c.decreases (omega arith),
  within,
)

pub expression::map_expr-returns-in-Ok : goal.expression::map_expr-returns-in-Ok
expression::map_expr-returns-in-Ok g t c = rw c.in-Tuple.is (tuple_mapped g.F.AstPayloadFunction.calls c.in-Tuple.items c.in-Ok.part _ _ c.in-Ok.ensures)

pub expression::map_expr-returns-in-Ok-map_exprs : goal.expression::map_expr-returns-in-Ok-map_exprs
expression::map_expr-returns-in-Ok-map_exprs g t c =
    rw c.in-List.is (list_mapped g.F.AstPayloadFunction.calls c.in-List.items c.in-Ok-map_exprs.part _ _ c.in-Ok-map_exprs.ensures)

pub expression::map_expr-returns-in-Ok-map_pairs : goal.expression::map_expr-returns-in-Ok-map_pairs
expression::map_expr-returns-in-Ok-map_pairs g t c =
    rw c.in-Dict.is (dict_mapped g.F.AstPayloadFunction.calls c.in-Dict.pairs c.in-Ok-map_pairs.part _ _ c.in-Ok-map_pairs.ensures)

pub expression::map_expr-returns-in-Ok-map_exprs-2 : goal.expression::map_expr-returns-in-Ok-map_exprs-2
expression::map_expr-returns-in-Ok-map_exprs-2 g t c =
    rw c.in-FString.is (f_string_mapped g.F.AstPayloadFunction.calls c.in-FString.string (record {
      node = record { format = c.in-FString.string.node.format; expressions = c.in-Ok-map_exprs-2.expressions };
      span = c.in-FString.string.span;
    }) _ _ refl refl c.in-Ok-map_exprs-2.ensures)

pub expression::map_expr-returns-in-ListComprehension : goal.expression::map_expr-returns-in-ListComprehension
expression::map_expr-returns-in-ListComprehension g t c =
    shape_is g.F.AstPayloadFunction.calls _ _ _ _ _ c.in-ListComprehension.is c.map_list_comprehension.ensures

pub expression::map_expr-returns-in-DictComprehension : goal.expression::map_expr-returns-in-DictComprehension
expression::map_expr-returns-in-DictComprehension g t c =
    shape_is g.F.AstPayloadFunction.calls _ _ _ _ _ c.in-DictComprehension.is c.map_dict_comprehension.ensures

pub expression::map_exprs-loop-item-preserved : goal.expression::map_exprs-loop-item-preserved
expression::map_exprs-loop-item-preserved g t c =
    next_made (maps_spanned g.F.AstPayloadFunction.calls) _ c.loop-item.mapping
    c.next.new.self c.in_ok-mapping-2.mapping c.next.result c.in-Some.item _ _ _ _ c.loop-item.invariant c.in-Some.is c.next.ensures.some c.next.ensures.mapped
    c.in_ok-mapping-2.ensures.rest c.in_ok-mapping-2.ensures.mapped
    c.map_spanned.ensures

pub expression::map_exprs-returns : goal.expression::map_exprs-returns
expression::map_exprs-returns g t c =
    rw c.finish.ensures (all_mapped _ c.args.items.items c.loop-item.mapping c.next.new.self c.next.result _ _ c.loop-item.invariant c.in_default.is
    c.next.ensures.all c.next.ensures.mapped)

pub expression::map_two-returns-in-Ok-parts : goal.expression::map_two-returns-in-Ok-parts
expression::map_two-returns-in-Ok-parts g t c =
    then_made (maps_spanned g.F.AstPayloadFunction.calls) (maps_spanned g.F.AstPayloadFunction.calls) c.args.pair.0 c.args.pair.1 _ _ _ _ _ _ _ _ _
    c.in-Ok.ensures.made c.in-Ok.ensures.kept c.in-Ok-parts.ensures.made c.in-Ok-parts.ensures.kept c.map_spanned.ensures c.map_spanned-in-Ok.ensures

pub expression::map_pair-returns : goal.expression::map_pair-returns
expression::map_pair-returns g t c =
    held_from (λ x y. maps_two g.F.AstPayloadFunction.calls x y c.args.f.now c.map_two.new.f) _ _ _ _ c.into_inner.ensures
    c.pair_in_box.ensures c.map_two.ensures

pub expression::map_triple-returns-in-Ok-parts : goal.expression::map_triple-returns-in-Ok-parts
expression::map_triple-returns-in-Ok-parts g t c =
    held_from (λ x y. maps_three g.F.AstPayloadFunction.calls x y c.args.f.now c.map_two.new.f) c.into_inner-first.result _ _ _ c.into_inner-first.ensures
    c.triple_in_box.ensures (
    then_made (maps_spanned g.F.AstPayloadFunction.calls) (maps_two g.F.AstPayloadFunction.calls) c.into_inner-first.result.0 (
      c.into_inner-first.result.1,
      c.into_inner-first.result.2,
    ) _ _ _ _ _ _ _ _ _ c.in-Ok.ensures.made c.in-Ok.ensures.kept c.in-Ok-parts.ensures.made c.in-Ok-parts.ensures.kept c.map_spanned.ensures
    c.map_two.ensures)

pub expression::map_pairs-loop-pair-preserved : goal.expression::map_pairs-loop-pair-preserved
expression::map_pairs-loop-pair-preserved g t c =
    next_made (maps_two g.F.AstPayloadFunction.calls) _ c.loop-pair.mapping
    c.next.new.self c.in_ok-mapping-2.mapping c.next.result c.in-Some.pair _ _ _ _ c.loop-pair.invariant c.in-Some.is c.next.ensures.some c.next.ensures.mapped
    c.in_ok-mapping-2.ensures.rest c.in_ok-mapping-2.ensures.mapped
    c.map_two.ensures

pub expression::map_pairs-returns : goal.expression::map_pairs-returns
expression::map_pairs-returns g t c =
    rw c.finish.ensures (all_mapped _ c.args.pairs.items c.loop-pair.mapping c.next.new.self c.next.result _ _ c.loop-pair.invariant c.in_default.is
    c.next.ensures.all c.next.ensures.mapped)

pub expression::map_call-returns-in-Ok-parts : goal.expression::map_call-returns-in-Ok-parts
expression::map_call-returns-in-Ok-parts g t c =
    let h = then_made (maps_boxed g.F.AstPayloadFunction.calls) (maps_arguments g.F.AstPayloadFunction.calls) c.args.parts.0 c.args.parts.1 _ _ _ _ _ _ _ _ _
    c.in-Ok.ensures.made c.in-Ok.ensures.kept c.in-Ok-parts.ensures.made c.in-Ok-parts.ensures.kept c.map_boxed.ensures c.map_arguments.ensures in
    call_mapped g.F.AstPayloadFunction.calls c.args.parts.0 c.in-Ok-parts.callee c.args.parts.1.args c.in-Ok-parts.args _ h.0 _ h.1 h.2

pub expression::map_slice-returns-in-Ok-stepped : goal.expression::map_slice-returns-in-Ok-stepped
expression::map_slice-returns-in-Ok-stepped g t c =
    slice_made g.F.AstPayloadFunction.calls c.args.parts.0 c.args.parts.1.0 c.args.parts.1.1.0 c.args.parts.1.1.1 c.in-Ok.bounds c.in-Ok.array
    c.in-Ok-started.start c.in-Ok-started.kept c.in-Ok-stopped.stop c.in-Ok-stopped.kept c.in-Ok-stepped.step c.in-Ok-stepped.kept
    c.map_boxed.result c.map_maybe.result c.map_maybe-in-Ok-started.result c.map_maybe-in-Ok-stopped.result _ _ _ _ _
    c.in-Ok.ensures.made c.in-Ok.ensures.kept c.in-Ok-started.ensures.made c.in-Ok-started.ensures.kept c.in-Ok-stopped.ensures.made
    c.in-Ok-stopped.ensures.kept c.in-Ok-stepped.ensures.made c.in-Ok-stepped.ensures.kept c.map_boxed.ensures c.map_maybe.ensures
    c.map_maybe-in-Ok-started.ensures c.map_maybe-in-Ok-stopped.ensures

pub expression::map_operation-returns-in-Ok-parts : goal.expression::map_operation-returns-in-Ok-parts
expression::map_operation-returns-in-Ok-parts g t c = (
  refl,
  then_made (maps_boxed g.F.AstPayloadFunction.calls) (maps_boxed g.F.AstPayloadFunction.calls) c.args.parts.0 c.args.parts.2 _ _ _ _ _ _ _ _ _
      c.in-Ok.ensures.made c.in-Ok.ensures.kept c.in-Ok-parts.ensures.made c.in-Ok-parts.ensures.kept c.map_boxed.ensures c.map_boxed-in-Ok.ensures,
)

pub expression::map_for_and_clauses-returns-in-Ok-parts : goal.expression::map_for_and_clauses-returns-in-Ok-parts
expression::map_for_and_clauses-returns-in-Ok-parts g t c =
    then_made (maps_first g.F.AstPayloadFunction.calls) (maps_clauses g.F.AstPayloadFunction.calls) c.args.parts.0 c.args.parts.1 _ _ _ _ _ _ _ _ _
    c.in-Ok.ensures.made c.in-Ok.ensures.kept c.in-Ok-parts.ensures.made c.in-Ok-parts.ensures.kept
    (held_from (λ x y. MapsForIn g.F.AstPayloadFunction.calls (for_in_of x) (for_in_of y) c.args.f.now c.map_for.new.f) _ _ _ _ c.into_inner.ensures
    c.held.ensures c.map_for.ensures) c.map_clauses.ensures

pub expression::map_list_comprehension-returns-in-Ok-parts : goal.expression::map_list_comprehension-returns-in-Ok-parts
expression::map_list_comprehension-returns-in-Ok-parts g t c =
    let h = then_made (maps_boxed g.F.AstPayloadFunction.calls) (maps_for_and_clauses g.F.AstPayloadFunction.calls) c.args.parts.0 c.args.parts.1 _ _ _ _ _ _ _
    _ _ c.in-Ok.ensures.made c.in-Ok.ensures.kept c.in-Ok-parts.ensures.made c.in-Ok-parts.ensures.kept c.map_boxed.ensures c.map_for_and_clauses.ensures in
    list_comprehension_mapped g.F.AstPayloadFunction.calls c.args.parts.0 c.in-Ok-parts.value c.args.parts.1.0 c.in-Ok-parts.clauses.0 c.args.parts.1.1
    c.in-Ok-parts.clauses.1 _ h.0 h.2.0 _ h.1 h.2.1 h.2.2

pub expression::map_dict_comprehension-returns-in-Ok-parts : goal.expression::map_dict_comprehension-returns-in-Ok-parts
expression::map_dict_comprehension-returns-in-Ok-parts g t c =
    let h = then_made (maps_pair g.F.AstPayloadFunction.calls) (maps_for_and_clauses g.F.AstPayloadFunction.calls) c.args.parts.0 c.args.parts.1 _ _ _ _ _ _ _
    _ _ c.in-Ok.ensures.made c.in-Ok.ensures.kept c.in-Ok-parts.ensures.made c.in-Ok-parts.ensures.kept c.map_pair.ensures c.map_for_and_clauses.ensures in
    dict_comprehension_mapped g.F.AstPayloadFunction.calls c.args.parts.0 c.in-Ok-parts.pair c.args.parts.1.0 c.in-Ok-parts.clauses.0 c.args.parts.1.1
    c.in-Ok-parts.clauses.1 _ h.0 h.2.0 _ h.1 h.2.1 h.2.2

pub argument::map_arguments-loop-item-preserved : goal.argument::map_arguments-loop-item-preserved
argument::map_arguments-loop-item-preserved g t c =
    next_made (λ x y. MapsArgument g.F.AstPayloadFunction.calls (argument_of x) (argument_of y)) _ c.loop-item.mapping
    c.next.new.self c.in_ok-mapping-2.mapping c.next.result c.in-Some.item _ _ _ _ c.loop-item.invariant c.in-Some.is c.next.ensures.some c.next.ensures.mapped
    c.in_ok-mapping-2.ensures.rest c.in_ok-mapping-2.ensures.mapped
    (placed_at (MapsArgument g.F.AstPayloadFunction.calls) argument_seen argument_seen c.in-Some.item c.map_argument.result c.spanned.result c.loop-item.f
    c.map_argument.new.f c.spanned.ensures.node c.spanned.ensures.span c.map_argument.ensures)

pub argument::map_arguments-returns : goal.argument::map_arguments-returns
argument::map_arguments-returns g t c =
    rw c.finish.ensures (all_mapped _ c.args.items.items c.loop-item.mapping c.next.new.self c.next.result _ _ c.loop-item.invariant c.in_default.is
    c.next.ensures.all c.next.ensures.mapped)

pub argument::map_arguments-map_argument-requires : goal.argument::map_arguments-map_argument-requires
argument::map_arguments-map_argument-requires g t c κs within = (
  item_smaller c.args.items.items c.loop-item.invariant.0 c.loop-item.mapping c.next.new.self c.next.result c.loop-item.invariant.1 c.next.ensures.some
      c.in-Some.item _ 6 0 1 t c.in-Some.is c.decreases (omega arith),
  within,
)

pub argument::map_maybe_type-returns-in-Ok-held : goal.argument::map_maybe_type-returns-in-Ok-held
argument::map_maybe_type-returns-in-Ok-held g t c =
    let made = out_of (λ y. MapsMaybeType g.F.AstPayloadFunction.calls (type_of c.into_inner-node.result) (type_of y) c.args.f.now
    c.map_type_expr-payload.new.self) _ c.in-Ok-held.part.value c.in-Ok-held.ensures
    (refl, (c.map_spanned.new.f, c.in-Ok.ensures, c.map_type_expr-payload.ensures)) in
    rw c.in-Some.is (rw c.into_inner-node.ensures at made)

pub argument::map_parameter-returns-in-Ok-parts : goal.argument::map_parameter-returns-in-Ok-parts
argument::map_parameter-returns-in-Ok-parts g t c =
    normal_made g.F.AstPayloadFunction.calls c.args.parameter c.in-Normal.name c.in-Normal.ty c.in-Normal.default c.in-Ok.default
    c.map_spanned_assign_ident-name.result c.in-Ok.ty c.in-Ok-parts.ty c.in-Ok-parts.default _ _ _ _ _ _
    c.in-Normal.is c.in-Ok.ensures.made c.in-Ok.ensures.kept c.in-Ok-parts.ensures.made c.in-Ok-parts.ensures.kept
    c.map_spanned_assign_ident-name.ensures.word c.map_spanned_assign_ident-name.ensures.payload c.map_maybe_type.ensures c.map_maybe.ensures

pub argument::map_parameter-returns-in-Ok-map_maybe_type : goal.argument::map_parameter-returns-in-Ok-map_maybe_type
argument::map_parameter-returns-in-Ok-map_maybe_type g t c = λ at. rw c.in-Args.is (
    args_mapped g.F.AstPayloadFunction.calls c.in-Args.name c.in-Args.ty c.map_spanned_assign_ident-name-in-Args.result c.in-Ok-map_maybe_type.ty _
    c.map_spanned_assign_ident-name-in-Args.new.f _ c.map_spanned_assign_ident-name-in-Args.ensures.word
    c.map_spanned_assign_ident-name-in-Args.ensures.payload c.in-Ok-map_maybe_type.ensures at)

pub argument::map_parameter-returns-in-Ok-map_maybe_type-2 : goal.argument::map_parameter-returns-in-Ok-map_maybe_type-2
argument::map_parameter-returns-in-Ok-map_maybe_type-2 g t c = λ at. rw c.in-KwArgs.is (
    kwargs_mapped g.F.AstPayloadFunction.calls c.in-KwArgs.name c.in-KwArgs.ty c.map_spanned_assign_ident-name-in-KwArgs.result
    c.in-Ok-map_maybe_type-2.ty _ c.map_spanned_assign_ident-name-in-KwArgs.new.f _ c.map_spanned_assign_ident-name-in-KwArgs.ensures.word
    c.map_spanned_assign_ident-name-in-KwArgs.ensures.payload c.in-Ok-map_maybe_type-2.ensures at)

pub argument::map_parameters-loop-item-preserved : goal.argument::map_parameters-loop-item-preserved
argument::map_parameters-loop-item-preserved g t c =
    next_made (λ x y. MapsParameter g.F.AstPayloadFunction.calls (parameter_of x) (parameter_of y)) _ c.loop-item.mapping
    c.next.new.self c.in_ok-mapping-2.mapping c.next.result c.in-Some.item _ _ _ _ c.loop-item.invariant c.in-Some.is c.next.ensures.some c.next.ensures.mapped
    c.in_ok-mapping-2.ensures.rest c.in_ok-mapping-2.ensures.mapped
    (placed_at (MapsParameter g.F.AstPayloadFunction.calls) parameter_seen parameter_seen c.in-Some.item c.map_parameter.result c.spanned.result c.loop-item.f
    c.map_parameter.new.f c.spanned.ensures.node c.spanned.ensures.span c.map_parameter.ensures)

pub argument::map_parameters-returns : goal.argument::map_parameters-returns
argument::map_parameters-returns g t c =
    rw c.finish.ensures (all_mapped _ c.args.items.items c.loop-item.mapping c.next.new.self c.next.result _ _ c.loop-item.invariant c.in_default.is
    c.next.ensures.all c.next.ensures.mapped)

pub argument::map_parameters-map_parameter-requires : goal.argument::map_parameters-map_parameter-requires
argument::map_parameters-map_parameter-requires g t c κs within = (
  item_smaller c.args.items.items c.loop-item.invariant.0 c.loop-item.mapping c.next.new.self c.next.result c.loop-item.invariant.1 c.next.ensures.some
      c.in-Some.item _ 6 0 1 t c.in-Some.is c.decreases (omega arith),
  within,
)

pub argument::map_lambda-returns-in-Ok-zip : goal.argument::map_lambda-returns-in-Ok-zip
argument::map_lambda-returns-in-Ok-zip g t c =
    lambda_made g.F.AstPayloadFunction.calls c.args.lambda c.in-Ok.params c.in-Ok-zip.params c.in-Ok.body c.in-Ok-zip.body c.map_def-payload.result
    _ _ _ _ _ _ c.in-Ok.ensures.made c.in-Ok.ensures.kept c.in-Ok-zip.ensures.made c.in-Ok-zip.ensures.kept c.map_parameters.ensures c.map_boxed.ensures
    c.map_def-payload.ensures

pub clause::map_for-returns-in-Ok-parts : goal.clause::map_for-returns-in-Ok-parts
clause::map_for-returns-in-Ok-parts g t c =
    then_made (λ x y. MapsTarget g.F.AstPayloadFunction.calls (target_of x) (target_of y)) (maps_spanned g.F.AstPayloadFunction.calls) c.args.clause.var
    c.args.clause.over _ _ _ _ _ _ _ _ _ c.in-Ok.ensures.made c.in-Ok.ensures.kept c.in-Ok-parts.ensures.made c.in-Ok-parts.ensures.kept
    (placed_at (MapsTarget g.F.AstPayloadFunction.calls) target_seen target_seen c.args.clause.var c.map_target.result c.spanned.result c.args.f.now
    c.map_target.new.f c.spanned.ensures.node c.spanned.ensures.span c.map_target.ensures) c.map_spanned.ensures

pub clause::map_clauses-loop-item-preserved : goal.clause::map_clauses-loop-item-preserved
clause::map_clauses-loop-item-preserved g t c =
    next_made (λ x y. MapsClause g.F.AstPayloadFunction.calls (clause_seen x) (clause_seen y)) _ c.loop-item.mapping
    c.next.new.self c.in_ok-mapping-2.mapping c.next.result c.in-Some.item _ _ _ _ c.loop-item.invariant c.in-Some.is c.next.ensures.some c.next.ensures.mapped
    c.in_ok-mapping-2.ensures.rest c.in_ok-mapping-2.ensures.mapped
    c.map_clause.ensures

pub clause::map_clauses-returns : goal.clause::map_clauses-returns
clause::map_clauses-returns g t c =
    rw c.finish.ensures (all_mapped _ c.args.items.items c.loop-item.mapping c.next.new.self c.next.result _ _ c.loop-item.invariant c.in_default.is
    c.next.ensures.all c.next.ensures.mapped)

pub clause::map_target-returns-in-Ok : goal.clause::map_target-returns-in-Ok
clause::map_target-returns-in-Ok g t c = λ at. rw c.in-Tuple.is (target_tuple_mapped g.F.AstPayloadFunction.calls c.in-Tuple.items c.in-Ok.part _ _
    c.in-Ok.ensures at)

pub clause::map_targets-loop-item-preserved : goal.clause::map_targets-loop-item-preserved
clause::map_targets-loop-item-preserved g t c =
    next_made (λ x y. MapsTarget g.F.AstPayloadFunction.calls (target_of x) (target_of y)) _ c.loop-item.mapping
    c.next.new.self c.in_ok-mapping-2.mapping c.next.result c.in-Some.item _ _ _ _ c.loop-item.invariant c.in-Some.is c.next.ensures.some c.next.ensures.mapped
    c.in_ok-mapping-2.ensures.rest c.in_ok-mapping-2.ensures.mapped
    (placed_at (MapsTarget g.F.AstPayloadFunction.calls) target_seen target_seen c.in-Some.item c.map_target.result c.spanned.result c.loop-item.f
    c.map_target.new.f c.spanned.ensures.node c.spanned.ensures.span c.map_target.ensures)

pub clause::map_targets-returns : goal.clause::map_targets-returns
clause::map_targets-returns g t c =
    rw c.finish.ensures (all_mapped _ c.args.items.items c.loop-item.mapping c.next.new.self c.next.result _ _ c.loop-item.invariant c.in_default.is
    c.next.ensures.all c.next.ensures.mapped)

pub expression::map_exprs-map_spanned-requires : goal.expression::map_exprs-map_spanned-requires
expression::map_exprs-map_spanned-requires g t c κs within = (
  item_below c.args.items.items c.loop-item.invariant.0 c.loop-item.mapping c.next.new.self c.next.result c.loop-item.invariant.1 c.next.ensures.some
      c.in-Some.item _ 6 1 2 t c.in-Some.is c.decreases (omega arith),
  within,
)

pub clause::map_targets-map_target-requires : goal.clause::map_targets-map_target-requires
clause::map_targets-map_target-requires g t c κs within = (
  item_smaller c.args.items.items c.loop-item.invariant.0 c.loop-item.mapping c.next.new.self c.next.result c.loop-item.invariant.1 c.next.ensures.some
      c.in-Some.item _ 6 0 1 t c.in-Some.is c.decreases (omega arith),
  within,
)

pub clause::map_clauses-map_clause-requires : goal.clause::map_clauses-map_clause-requires
clause::map_clauses-map_clause-requires g t c κs within = (
  item_below c.args.items.items c.loop-item.invariant.0 c.loop-item.mapping c.next.new.self c.next.result c.loop-item.invariant.1 c.next.ensures.some
      c.in-Some.item _ 6 0 1 t c.in-Some.is c.decreases (omega arith),
  within,
)

pub expression::map_exprs-loop-item-init : goal.expression::map_exprs-loop-item-init
expression::map_exprs-loop-item-init g t c =
    none_mapped _ c.args.items.items c.in_ok-mapping.mapping _ c.in_ok-mapping.ensures.rest c.in_ok-mapping.ensures.mapped

pub expression::map_pairs-loop-pair-init : goal.expression::map_pairs-loop-pair-init
expression::map_pairs-loop-pair-init g t c =
    none_mapped _ c.args.pairs.items c.in_ok-mapping.mapping _ c.in_ok-mapping.ensures.rest c.in_ok-mapping.ensures.mapped

pub argument::map_arguments-loop-item-init : goal.argument::map_arguments-loop-item-init
argument::map_arguments-loop-item-init g t c =
    none_mapped _ c.args.items.items c.in_ok-mapping.mapping _ c.in_ok-mapping.ensures.rest c.in_ok-mapping.ensures.mapped

pub argument::map_parameters-loop-item-init : goal.argument::map_parameters-loop-item-init
argument::map_parameters-loop-item-init g t c =
    none_mapped _ c.args.items.items c.in_ok-mapping.mapping _ c.in_ok-mapping.ensures.rest c.in_ok-mapping.ensures.mapped

pub clause::map_clauses-loop-item-init : goal.clause::map_clauses-loop-item-init
clause::map_clauses-loop-item-init g t c =
    none_mapped _ c.args.items.items c.in_ok-mapping.mapping _ c.in_ok-mapping.ensures.rest c.in_ok-mapping.ensures.mapped

pub clause::map_targets-loop-item-init : goal.clause::map_targets-loop-item-init
clause::map_targets-loop-item-init g t c =
    none_mapped _ c.args.items.items c.in_ok-mapping.mapping _ c.in_ok-mapping.ensures.rest c.in_ok-mapping.ensures.mapped
