use Rattle.std.proofs.Common.{ap, sym}
use Rattle.starlark_tree.specs.Places.{clause_exprs}
use Rattle.starlark_tree.specs.Views.{clause_seen}
use Rattle.starlark_tree.proofs.WalkConversions.{walk_at}
use Rattle.starlark_uniplate.proofs.uniplate.clause.walk_clause.Goals as goal

pub returns-in-For : goal.returns-in-For
returns-in-For g c = walk_at (ap (λ k. clause_exprs (clause_seen k)) (sym c.in-For.is)) c.walk_for.ensures

pub returns-in-If : goal.returns-in-If
returns-in-If g c = walk_at (ap (λ k. clause_exprs (clause_seen k)) (sym c.in-If.is)) c.walk_one.ensures
