use Rattle.std.proofs.Common.{◌∷◌, [], ap}
use Rattle.starlark_tree.specs.Children.{expr, stmt}
use Rattle.starlark_tree.specs.Views.{statement_of}
use Rattle.starlark_tree.proofs.WalkConversions.{walk_at}
use Rattle.starlark_uniplate.proofs.Shown.{walk_shown}
use Rattle.starlark_uniplate.proofs.Turns.{result_at}
use Rattle.starlark_tree.proofs.Steps.{walk_on, walk_stops}
use Rattle.starlark_uniplate.proofs.uniplate.visit.walk_def_parts.Goals as goal

pub returns-in-Ok : goal.returns-in-Ok
returns-in-Ok g c =
    walk_on (walk_shown expr (result_at c.in-Ok.is c.walk_def.ensures))
    (walk_shown stmt (walk_at (ap (λ b. statement_of b ∷ []) c.deref.ensures) c.walk_stmt.ensures))

pub returns-in-Err : goal.returns-in-Err
returns-in-Err g c = walk_stops _ (walk_shown expr (result_at c.in-Err.is c.walk_def.ensures))
