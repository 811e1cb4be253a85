use Rattle.std.proofs.Common.{sym}
use Rattle.std.specs.List.{flat_map}
use Rattle.starlark_tree.specs.Children.{stmts_of_stmt}
use Rattle.starlark_uniplate.specs.Statements.{statement_inside}
use Rattle.starlark_tree.proofs.WalkConversions.{walk_at}
use Rattle.starlark_tree.proofs.Steps.{walk_on, walk_stops}
use Rattle.starlark_uniplate.proofs.Inside.{stmt_inside}
use Rattle.starlark_uniplate.proofs.NestedWalks.{walk_through}
use Rattle.starlark_uniplate.proofs.uniplate.inside.walk_and_enter_stmts.Goals as goal

pub returns-in-Ok : goal.returns-in-Ok
returns-in-Ok g c =
    walk_at (sym (stmt_inside c.args.stmt.now)) (walk_on (rw c.in-Ok.is at c.walk_stmt.ensures) (walk_through c.walk_stmts.ensures c.requires.enters.promises))

pub returns-in-Err : goal.returns-in-Err
returns-in-Err g c = walk_at (sym (stmt_inside c.args.stmt.now)) (walk_stops (flat_map statement_inside (stmts_of_stmt c.args.stmt.now.node))
    (rw c.in-Err.is at c.walk_stmt.ensures))
