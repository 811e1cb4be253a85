use Rattle.std.proofs.Common.{take}
use Rattle.std.specs.List.{AllZip}
use Rattle.starlark_tree.specs.Clones.{cloning, ClonesArgument, ClonesClause, ClonesExpression, ClonesParameter, ClonesTarget}
use Rattle.starlark_tree.specs.Views.{argument_of, clause_seen, expression_of, parameter_of, target_of}
use Rattle.starlark_tree.proofs.clone.expr.+copy.Given as goal

abbrev pub invariant-clone_exprs-loop-item : goal.invariant-clone_exprs-loop-item
invariant-clone_exprs-loop-item g l = AllZip (λ x y. ClonesExpression
    (cloning g.P.LoadPayload.Clone.is_clone g.P.IdentPayload.Clone.is_clone g.P.IdentAssignPayload.Clone.is_clone g.P.DefPayload.Clone.is_clone
    g.P.TypeExprPayload.Clone.is_clone) (expression_of x) (expression_of y)) (take l.item-index l.item-items) l.copies.items

abbrev pub invariant-clone_arguments-loop-item : goal.invariant-clone_arguments-loop-item
invariant-clone_arguments-loop-item g l = AllZip (λ x y. ClonesArgument
    (cloning g.P.LoadPayload.Clone.is_clone g.P.IdentPayload.Clone.is_clone g.P.IdentAssignPayload.Clone.is_clone g.P.DefPayload.Clone.is_clone
    g.P.TypeExprPayload.Clone.is_clone) (argument_of x) (argument_of y)) (take l.item-index l.item-items) l.copies.items

abbrev pub invariant-clone_parameters-loop-item : goal.invariant-clone_parameters-loop-item
invariant-clone_parameters-loop-item g l = AllZip (λ x y. ClonesParameter
    (cloning g.P.LoadPayload.Clone.is_clone g.P.IdentPayload.Clone.is_clone g.P.IdentAssignPayload.Clone.is_clone g.P.DefPayload.Clone.is_clone
    g.P.TypeExprPayload.Clone.is_clone) (parameter_of x) (parameter_of y)) (take l.item-index l.item-items) l.copies.items

abbrev pub invariant-clone_clauses-loop-item : goal.invariant-clone_clauses-loop-item
invariant-clone_clauses-loop-item g l = AllZip (λ x y. ClonesClause
    (cloning g.P.LoadPayload.Clone.is_clone g.P.IdentPayload.Clone.is_clone g.P.IdentAssignPayload.Clone.is_clone g.P.DefPayload.Clone.is_clone
    g.P.TypeExprPayload.Clone.is_clone) (clause_seen x) (clause_seen y)) (take l.item-index l.item-items) l.copies.items

abbrev pub invariant-clone_targets-loop-item : goal.invariant-clone_targets-loop-item
invariant-clone_targets-loop-item g l = AllZip (λ x y. ClonesTarget
    (cloning g.P.LoadPayload.Clone.is_clone g.P.IdentPayload.Clone.is_clone g.P.IdentAssignPayload.Clone.is_clone g.P.DefPayload.Clone.is_clone
    g.P.TypeExprPayload.Clone.is_clone) (target_of x) (target_of y)) (take l.item-index l.item-items) l.copies.items

abbrev pub invariant-clone_pairs-loop-item : goal.invariant-clone_pairs-loop-item
invariant-clone_pairs-loop-item g l = AllZip (λ x y. ClonesExpression
    (cloning g.P.LoadPayload.Clone.is_clone g.P.IdentPayload.Clone.is_clone g.P.IdentAssignPayload.Clone.is_clone g.P.DefPayload.Clone.is_clone
    g.P.TypeExprPayload.Clone.is_clone) (expression_of x.0) (expression_of y.0)
    × ClonesExpression (cloning g.P.LoadPayload.Clone.is_clone g.P.IdentPayload.Clone.is_clone g.P.IdentAssignPayload.Clone.is_clone
    g.P.DefPayload.Clone.is_clone g.P.TypeExprPayload.Clone.is_clone) (expression_of x.1) (expression_of y.1)) (take l.item-index l.item-items) l.copies.items
