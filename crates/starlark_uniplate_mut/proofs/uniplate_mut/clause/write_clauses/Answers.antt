use Rattle.std.proofs.Common.{refl}
use Rattle.starlark_uniplate_mut.specs.Frames.{clause_frame_of}
use Rattle.starlark_tree.specs.Places.{clause_exprs}
use Rattle.starlark_tree.specs.Views.{clause_seen}
use Rattle.starlark_tree.proofs.Steps.{same_err}
use Rattle.starlark_uniplate_mut.proofs.WriteLoops.{all_written, item_more, item_stops}
use Rattle.starlark_uniplate_mut.proofs.uniplate_mut.clause.write_clauses.Goals as goal

pub returns-in_err-write_clause : goal.returns-in_err-write_clause
returns-in_err-write_clause g c =
    rw (same_err c.from_residual.result c.in_err-write_clause.field-0.0 c.from_residual.ensures.1)
    (item_stops (λ k. clause_exprs (clause_seen k)) (clause_frame_of) g.G.AtExprMut.calls c.args.clauses.now c.loop-clause.clauses c.loop-clause.clause-index
    c.clause-item.result refl c.loop-clause-test.true c.loop-clause.invariant (rw c.in_err-write_clause.was at c.write_clause.ensures))

pub loop-clause-preserved : goal.loop-clause-preserved
loop-clause-preserved g c = item_more (λ k. clause_exprs (clause_seen k)) (clause_frame_of) g.G.AtExprMut.calls c.args.clauses.now c.loop-clause.clauses
    c.loop-clause.clause-index c.clause-item.result refl c.loop-clause-test.true c.loop-clause.invariant (rw c.in_ok-write_clause.was at c.write_clause.ensures)

pub returns : goal.returns
returns g c = all_written c.loop-clause.clause-index c.loop-clause-test.false c.loop-clause.invariant
