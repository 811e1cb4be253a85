use Rattle.starlark_tree.specs.Children.{expr, stmt}
use Rattle.starlark_tree.proofs.Steps.{walk_on, walk_stops}
use Rattle.starlark_uniplate.proofs.Shown.{walk_shown}
use Rattle.starlark_uniplate.proofs.Turns.{result_at}
use Rattle.starlark_uniplate.proofs.uniplate.visit.walk_parts.Goals as goal

pub returns-in-Ok : goal.returns-in-Ok
returns-in-Ok g c = walk_on (walk_shown expr (result_at c.in-Ok.is c.walk_exprs.ensures)) (walk_shown stmt c.walk_stmts.ensures)

pub returns-in-Err : goal.returns-in-Err
returns-in-Err g c = walk_stops _ (walk_shown expr (result_at c.in-Err.is c.walk_exprs.ensures))
