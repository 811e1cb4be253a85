use Rattle.std.proofs.Common.{ap}
use Rattle.starlark_tree.specs.Places.{for_exprs}
use Rattle.starlark_tree.specs.Views.{for_in_of}
use Rattle.starlark_tree.proofs.WalkConversions.{walk_at}
use Rattle.starlark_uniplate.proofs.Turns.{stops_at, then_on}
use Rattle.starlark_uniplate.proofs.uniplate.expression.walk_comprehension.Goals as goal

pub returns-in-Ok : goal.returns-in-Ok
returns-in-Ok g c = then_on c.in-Ok.is (walk_at (ap (λ k. for_exprs (for_in_of k)) c.deref.ensures) c.walk_for.ensures) c.walk_more_clauses.ensures

pub returns-in-Err : goal.returns-in-Err
returns-in-Err g c = stops_at _ c.in-Err.is (walk_at (ap (λ k. for_exprs (for_in_of k)) c.deref.ensures) c.walk_for.ensures)
