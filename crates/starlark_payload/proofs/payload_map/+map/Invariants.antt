use Rattle.std.proofs.Common.{ℕ, ◌+◌, ◌*◌, length, max}
use Rattle.std.specs.Vec.Iter.{into_iter_items}
use Rattle.starlark_tree.specs.Views.{argument_of, clause_seen, parameter_of, target_of}
use Rattle.starlark_tree.specs.declared.ast.ArgumentP.TheShapes as shapes
use Rattle.starlark_tree.proofs.ast.ArgumentP.TheLaws as argument
use Rattle.starlark_tree.proofs.ast.ClauseP.TheLaws as clause
use Rattle.starlark_tree.proofs.ast.ExprP.TheLaws as expr
use Rattle.starlark_tree.proofs.ast.ForClauseP.TheLaws as for-clause
use Rattle.starlark_payload.specs.Function.Mapped.{MapsArgument, MapsClause, MapsParameter, MapsTarget}
use Rattle.starlark_payload.proofs.FunctionLemmas.Loops.{MappedTo}
use Rattle.starlark_payload.proofs.Parts.{maps_spanned, maps_two}
use Rattle.starlark_payload.proofs.payload_map.+map.Given as goal

abbrev pub decreases-expression::map_expr : goal.decreases-expression::map_expr
decreases-expression::map_expr g l = 6 * goal.size-expression::map_expr g l + 0

abbrev pub decreases-expression::map_boxed : goal.decreases-expression::map_boxed
decreases-expression::map_boxed g l = 6 * goal.size-expression::map_boxed g l + 1

abbrev pub decreases-expression::map_maybe : goal.decreases-expression::map_maybe
decreases-expression::map_maybe g l = 6 * goal.size-expression::map_maybe g l + 2

abbrev pub decreases-expression::map_exprs : goal.decreases-expression::map_exprs
decreases-expression::map_exprs g l = 6 * goal.size-expression::map_exprs g l + 2

abbrev pub decreases-expression::map_two : goal.decreases-expression::map_two
decreases-expression::map_two g l = 6 * goal.size-expression::map_two g l + 2

abbrev pub decreases-expression::map_pair : goal.decreases-expression::map_pair
decreases-expression::map_pair g l = 6 * goal.size-expression::map_pair g l + 3

abbrev pub decreases-expression::map_triple : goal.decreases-expression::map_triple
decreases-expression::map_triple g l = 6 * goal.size-expression::map_triple g l + 3

abbrev pub decreases-expression::map_pairs : goal.decreases-expression::map_pairs
decreases-expression::map_pairs g l = 6 * goal.size-expression::map_pairs g l + 3

abbrev pub decreases-expression::map_call : goal.decreases-expression::map_call
decreases-expression::map_call g l = 6 * (max (expr.the_size g.row.A g.row.A-LoadPayload g.row.A-IdentPayload g.row.A-IdentAssignPayload g.row.A-DefPayload
    g.row.A-TypeExprPayload g.A.laws g.A.LoadPayload.laws g.A.IdentPayload.laws g.A.IdentAssignPayload.laws g.A.DefPayload.laws g.A.TypeExprPayload.laws
    l.parts.0.value.node) ((shapes.weighed-CallArgsP-args g.row.A.Denot g.row.A-LoadPayload.Denot g.row.A-IdentPayload.Denot g.row.A-IdentAssignPayload.Denot
    g.row.A-DefPayload.Denot g.row.A-TypeExprPayload.Denot).weight _
    (argument.the_size g.row.A g.row.A-LoadPayload g.row.A-IdentPayload g.row.A-IdentAssignPayload g.row.A-DefPayload g.row.A-TypeExprPayload g.A.laws
    g.A.LoadPayload.laws g.A.IdentPayload.laws g.A.IdentAssignPayload.laws g.A.DefPayload.laws g.A.TypeExprPayload.laws) l.parts.1.args)) + 2

abbrev pub decreases-expression::map_slice : goal.decreases-expression::map_slice
decreases-expression::map_slice g l = 6 * (max (expr.the_size g.row.A g.row.A-LoadPayload g.row.A-IdentPayload g.row.A-IdentAssignPayload g.row.A-DefPayload
    g.row.A-TypeExprPayload g.A.laws g.A.LoadPayload.laws g.A.IdentPayload.laws g.A.IdentAssignPayload.laws g.A.DefPayload.laws g.A.TypeExprPayload.laws
    l.parts.0.value.node) (max ((shapes.weighed-ExprP-Slice-1 g.row.A.Denot g.row.A-LoadPayload.Denot g.row.A-IdentPayload.Denot
    g.row.A-IdentAssignPayload.Denot g.row.A-DefPayload.Denot g.row.A-TypeExprPayload.Denot).weight _
    (expr.the_size g.row.A g.row.A-LoadPayload g.row.A-IdentPayload g.row.A-IdentAssignPayload g.row.A-DefPayload g.row.A-TypeExprPayload g.A.laws
    g.A.LoadPayload.laws g.A.IdentPayload.laws g.A.IdentAssignPayload.laws g.A.DefPayload.laws g.A.TypeExprPayload.laws) l.parts.1.0)
    (max ((shapes.weighed-ExprP-Slice-1 g.row.A.Denot g.row.A-LoadPayload.Denot g.row.A-IdentPayload.Denot g.row.A-IdentAssignPayload.Denot
    g.row.A-DefPayload.Denot g.row.A-TypeExprPayload.Denot).weight _ (expr.the_size g.row.A g.row.A-LoadPayload g.row.A-IdentPayload g.row.A-IdentAssignPayload
    g.row.A-DefPayload g.row.A-TypeExprPayload g.A.laws g.A.LoadPayload.laws g.A.IdentPayload.laws g.A.IdentAssignPayload.laws g.A.DefPayload.laws
    g.A.TypeExprPayload.laws) l.parts.1.1.0) ((shapes.weighed-ExprP-Slice-1 g.row.A.Denot g.row.A-LoadPayload.Denot g.row.A-IdentPayload.Denot
    g.row.A-IdentAssignPayload.Denot g.row.A-DefPayload.Denot g.row.A-TypeExprPayload.Denot).weight _
    (expr.the_size g.row.A g.row.A-LoadPayload g.row.A-IdentPayload g.row.A-IdentAssignPayload g.row.A-DefPayload g.row.A-TypeExprPayload g.A.laws
    g.A.LoadPayload.laws g.A.IdentPayload.laws g.A.IdentAssignPayload.laws g.A.DefPayload.laws g.A.TypeExprPayload.laws) l.parts.1.1.1)))) + 3

abbrev pub decreases-expression::map_operation : goal.decreases-expression::map_operation
decreases-expression::map_operation g l = 6 * (max (expr.the_size g.row.A g.row.A-LoadPayload g.row.A-IdentPayload g.row.A-IdentAssignPayload
    g.row.A-DefPayload g.row.A-TypeExprPayload g.A.laws g.A.LoadPayload.laws g.A.IdentPayload.laws g.A.IdentAssignPayload.laws g.A.DefPayload.laws
    g.A.TypeExprPayload.laws l.parts.0.value.node) (expr.the_size g.row.A g.row.A-LoadPayload g.row.A-IdentPayload g.row.A-IdentAssignPayload
    g.row.A-DefPayload g.row.A-TypeExprPayload g.A.laws g.A.LoadPayload.laws g.A.IdentPayload.laws g.A.IdentAssignPayload.laws g.A.DefPayload.laws
    g.A.TypeExprPayload.laws l.parts.2.value.node)) + 2

abbrev pub decreases-expression::map_for_and_clauses : goal.decreases-expression::map_for_and_clauses
decreases-expression::map_for_and_clauses g l = 6 *
    (max (for-clause.the_size g.row.A g.row.A-LoadPayload g.row.A-IdentPayload g.row.A-IdentAssignPayload g.row.A-DefPayload g.row.A-TypeExprPayload g.A.laws
    g.A.LoadPayload.laws g.A.IdentPayload.laws g.A.IdentAssignPayload.laws g.A.DefPayload.laws g.A.TypeExprPayload.laws l.parts.0.value)
    ((shapes.weighed-ExprP-ListComprehension-2 g.row.A.Denot g.row.A-LoadPayload.Denot g.row.A-IdentPayload.Denot g.row.A-IdentAssignPayload.Denot
    g.row.A-DefPayload.Denot g.row.A-TypeExprPayload.Denot).weight _
    (clause.the_size g.row.A g.row.A-LoadPayload g.row.A-IdentPayload g.row.A-IdentAssignPayload g.row.A-DefPayload g.row.A-TypeExprPayload g.A.laws
    g.A.LoadPayload.laws g.A.IdentPayload.laws g.A.IdentAssignPayload.laws g.A.DefPayload.laws g.A.TypeExprPayload.laws) l.parts.1)) + 2

abbrev pub decreases-expression::map_list_comprehension : goal.decreases-expression::map_list_comprehension
decreases-expression::map_list_comprehension g l =
    6 * (max (expr.the_size g.row.A g.row.A-LoadPayload g.row.A-IdentPayload g.row.A-IdentAssignPayload g.row.A-DefPayload g.row.A-TypeExprPayload g.A.laws
    g.A.LoadPayload.laws g.A.IdentPayload.laws g.A.IdentAssignPayload.laws g.A.DefPayload.laws g.A.TypeExprPayload.laws l.parts.0.value.node)
    (max (for-clause.the_size g.row.A g.row.A-LoadPayload g.row.A-IdentPayload g.row.A-IdentAssignPayload g.row.A-DefPayload g.row.A-TypeExprPayload g.A.laws
    g.A.LoadPayload.laws g.A.IdentPayload.laws g.A.IdentAssignPayload.laws g.A.DefPayload.laws g.A.TypeExprPayload.laws l.parts.1.0.value)
    ((shapes.weighed-ExprP-ListComprehension-2 g.row.A.Denot g.row.A-LoadPayload.Denot g.row.A-IdentPayload.Denot g.row.A-IdentAssignPayload.Denot
    g.row.A-DefPayload.Denot g.row.A-TypeExprPayload.Denot).weight _
    (clause.the_size g.row.A g.row.A-LoadPayload g.row.A-IdentPayload g.row.A-IdentAssignPayload g.row.A-DefPayload g.row.A-TypeExprPayload g.A.laws
    g.A.LoadPayload.laws g.A.IdentPayload.laws g.A.IdentAssignPayload.laws g.A.DefPayload.laws g.A.TypeExprPayload.laws) l.parts.1.1))) + 3

abbrev pub decreases-expression::map_dict_comprehension : goal.decreases-expression::map_dict_comprehension
decreases-expression::map_dict_comprehension g l =
    6 * (max (expr.the_size g.row.A g.row.A-LoadPayload g.row.A-IdentPayload g.row.A-IdentAssignPayload g.row.A-DefPayload g.row.A-TypeExprPayload g.A.laws
    g.A.LoadPayload.laws g.A.IdentPayload.laws g.A.IdentAssignPayload.laws g.A.DefPayload.laws g.A.TypeExprPayload.laws l.parts.0.value.0.node)
    (max (expr.the_size g.row.A g.row.A-LoadPayload g.row.A-IdentPayload g.row.A-IdentAssignPayload g.row.A-DefPayload g.row.A-TypeExprPayload g.A.laws
    g.A.LoadPayload.laws g.A.IdentPayload.laws g.A.IdentAssignPayload.laws g.A.DefPayload.laws g.A.TypeExprPayload.laws l.parts.0.value.1.node)
    (max (for-clause.the_size g.row.A g.row.A-LoadPayload g.row.A-IdentPayload g.row.A-IdentAssignPayload g.row.A-DefPayload g.row.A-TypeExprPayload g.A.laws
    g.A.LoadPayload.laws g.A.IdentPayload.laws g.A.IdentAssignPayload.laws g.A.DefPayload.laws g.A.TypeExprPayload.laws l.parts.1.0.value)
    ((shapes.weighed-ExprP-ListComprehension-2 g.row.A.Denot g.row.A-LoadPayload.Denot g.row.A-IdentPayload.Denot g.row.A-IdentAssignPayload.Denot
    g.row.A-DefPayload.Denot g.row.A-TypeExprPayload.Denot).weight _
    (clause.the_size g.row.A g.row.A-LoadPayload g.row.A-IdentPayload g.row.A-IdentAssignPayload g.row.A-DefPayload g.row.A-TypeExprPayload g.A.laws
    g.A.LoadPayload.laws g.A.IdentPayload.laws g.A.IdentAssignPayload.laws g.A.DefPayload.laws g.A.TypeExprPayload.laws) l.parts.1.1)))) + 4

abbrev pub decreases-argument::map_spanned : goal.decreases-argument::map_spanned
decreases-argument::map_spanned g l = 6 * goal.size-argument::map_spanned g l + 1

abbrev pub decreases-argument::map_maybe_type : goal.decreases-argument::map_maybe_type
decreases-argument::map_maybe_type g l = 6 * goal.size-argument::map_maybe_type g l + 1

abbrev pub decreases-argument::map_argument : goal.decreases-argument::map_argument
decreases-argument::map_argument g l = 6 * goal.size-argument::map_argument g l + 0

abbrev pub decreases-argument::map_arguments : goal.decreases-argument::map_arguments
decreases-argument::map_arguments g l = 6 * goal.size-argument::map_arguments g l + 1

abbrev pub decreases-argument::map_parameter : goal.decreases-argument::map_parameter
decreases-argument::map_parameter g l = 6 * goal.size-argument::map_parameter g l + 0

abbrev pub decreases-argument::map_parameters : goal.decreases-argument::map_parameters
decreases-argument::map_parameters g l = 6 * goal.size-argument::map_parameters g l + 1

abbrev pub decreases-argument::map_lambda : goal.decreases-argument::map_lambda
decreases-argument::map_lambda g l = 6 * goal.size-argument::map_lambda g l + 0

abbrev pub decreases-clause::map_for : goal.decreases-clause::map_for
decreases-clause::map_for g l = 6 * goal.size-clause::map_for g l + 0

abbrev pub decreases-clause::map_clause : goal.decreases-clause::map_clause
decreases-clause::map_clause g l = 6 * goal.size-clause::map_clause g l + 0

abbrev pub decreases-clause::map_clauses : goal.decreases-clause::map_clauses
decreases-clause::map_clauses g l = 6 * goal.size-clause::map_clauses g l + 1

abbrev pub decreases-clause::map_target : goal.decreases-clause::map_target
decreases-clause::map_target g l = 6 * goal.size-clause::map_target g l + 0

abbrev pub decreases-clause::map_targets : goal.decreases-clause::map_targets
decreases-clause::map_targets g l = 6 * goal.size-clause::map_targets g l + 1

abbrev pub invariant-expression::map_exprs-loop-item : goal.invariant-expression::map_exprs-loop-item
invariant-expression::map_exprs-loop-item g l = MappedTo (maps_spanned g.F.AstPayloadFunction.calls) l.fn.items.items l.mapping l.fn.f l.f

abbrev pub decreases-expression::map_exprs-loop-item : goal.decreases-expression::map_exprs-loop-item
decreases-expression::map_exprs-loop-item g l = length (into_iter_items l.mapping.rest)

abbrev pub invariant-expression::map_pairs-loop-pair : goal.invariant-expression::map_pairs-loop-pair
invariant-expression::map_pairs-loop-pair g l = MappedTo (maps_two g.F.AstPayloadFunction.calls) l.fn.pairs.items l.mapping l.fn.f l.f

abbrev pub decreases-expression::map_pairs-loop-pair : goal.decreases-expression::map_pairs-loop-pair
decreases-expression::map_pairs-loop-pair g l = length (into_iter_items l.mapping.rest)

abbrev pub invariant-argument::map_arguments-loop-item : goal.invariant-argument::map_arguments-loop-item
invariant-argument::map_arguments-loop-item g l =
    MappedTo (λ x y. MapsArgument g.F.AstPayloadFunction.calls (argument_of x) (argument_of y)) l.fn.items.items l.mapping l.fn.f l.f

abbrev pub decreases-argument::map_arguments-loop-item : goal.decreases-argument::map_arguments-loop-item
decreases-argument::map_arguments-loop-item g l = length (into_iter_items l.mapping.rest)

abbrev pub invariant-argument::map_parameters-loop-item : goal.invariant-argument::map_parameters-loop-item
invariant-argument::map_parameters-loop-item g l =
    MappedTo (λ x y. MapsParameter g.F.AstPayloadFunction.calls (parameter_of x) (parameter_of y)) l.fn.items.items l.mapping l.fn.f l.f

abbrev pub decreases-argument::map_parameters-loop-item : goal.decreases-argument::map_parameters-loop-item
decreases-argument::map_parameters-loop-item g l = length (into_iter_items l.mapping.rest)

abbrev pub invariant-clause::map_clauses-loop-item : goal.invariant-clause::map_clauses-loop-item
invariant-clause::map_clauses-loop-item g l =
    MappedTo (λ x y. MapsClause g.F.AstPayloadFunction.calls (clause_seen x) (clause_seen y)) l.fn.items.items l.mapping l.fn.f l.f

abbrev pub decreases-clause::map_clauses-loop-item : goal.decreases-clause::map_clauses-loop-item
decreases-clause::map_clauses-loop-item g l = length (into_iter_items l.mapping.rest)

abbrev pub invariant-clause::map_targets-loop-item : goal.invariant-clause::map_targets-loop-item
invariant-clause::map_targets-loop-item g l =
    MappedTo (λ x y. MapsTarget g.F.AstPayloadFunction.calls (target_of x) (target_of y)) l.fn.items.items l.mapping l.fn.f l.f

abbrev pub decreases-clause::map_targets-loop-item : goal.decreases-clause::map_targets-loop-item
decreases-clause::map_targets-loop-item g l = length (into_iter_items l.mapping.rest)
