use Rattle.starlark_tree.specs.Places.{clause_exprs}
use Rattle.starlark_tree.specs.Views.{clause_seen}
use Rattle.starlark_uniplate.proofs.Calls.{WalkedTo}
use Rattle.starlark_uniplate.proofs.uniplate.clause.walk_clauses.Given as goal

abbrev pub invariant-loop-clause : goal.invariant-loop-clause
invariant-loop-clause g l = WalkedTo g.G.AtExpr.calls (λ k. clause_exprs (clause_seen k)) l.clause-index l.fn.state l.clauses l.state
