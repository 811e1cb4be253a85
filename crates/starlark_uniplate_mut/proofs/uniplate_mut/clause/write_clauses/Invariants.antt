use Rattle.starlark_uniplate_mut.specs.Frames.{clause_frame_of}
use Rattle.starlark_tree.specs.Places.{clause_exprs}
use Rattle.starlark_tree.specs.Views.{clause_seen}
use Rattle.starlark_uniplate_mut.proofs.WriteLoops.{WrittenTo}
use Rattle.starlark_uniplate_mut.proofs.uniplate_mut.clause.write_clauses.Given as goal

abbrev pub invariant-loop-clause : goal.invariant-loop-clause
invariant-loop-clause g l = WrittenTo (λ k. clause_exprs (clause_seen k)) (clause_frame_of) g.G.AtExprMut.calls l.clause-index l.fn.state l.fn.clauses
    l.clauses l.state
