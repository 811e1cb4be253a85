use Rattle.std.proofs.Common.{◌++◌, take, ap, sym, ◌∙◌, append_assoc, append-nil}
use Rattle.std.specs.List.{flat_map}
use Rattle.starlark_tree.specs.Places.{clause_exprs, for_exprs}
use Rattle.starlark_tree.specs.Views.{clause_seen, for_in_of}
use Rattle.starlark_validate.proofs.AddedExpressions.{then, at_places, grown}
use Rattle.starlark_validate.proofs.children.add_clauses.Goals as goal

pub loop-clause-init : goal.loop-clause-init
loop-clause-init c = at_places (sym (append-nil (for_exprs (for_in_of c.args.first.now)))) (rw c.in_ok-add_for.was at c.add_for.ensures)

pub loop-clause-preserved : goal.loop-clause-preserved
loop-clause-preserved c =
    at_places
    (append_assoc (for_exprs (for_in_of c.args.first.now)) (flat_map (λ k. clause_exprs (clause_seen k)) (take c.loop-clause.clause-index c.args.others.now))
    (clause_exprs (clause_seen c.clause-item.result))
    ∙ ap (λ ys. for_exprs (for_in_of c.args.first.now) ++ ys) (grown (λ k. clause_exprs (clause_seen k)) c.args.others.now c.loop-clause.clause-index
    c.clause-item.result c.loop-clause-test.true c.clause-item.is))
    (then c.loop-clause.invariant (rw c.in_ok-add_clause.was at c.add_clause.ensures))
