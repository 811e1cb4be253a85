use Rattle.std.proofs.Common.{sym}
use Rattle.std.specs.List.{flat_map}
use Rattle.starlark_tree.specs.Inside.{inside}
use Rattle.starlark_tree.specs.Places.{children}
use Rattle.starlark_tree.proofs.WalkConversions.{walk_at}
use Rattle.starlark_tree.proofs.Steps.{walk_on, walk_stops}
use Rattle.starlark_uniplate.proofs.Inside.{expr_inside}
use Rattle.starlark_uniplate.proofs.NestedWalks.{walk_through}
use Rattle.starlark_uniplate.proofs.uniplate.inside.walk_and_enter.Goals as goal

pub returns-in-Ok : goal.returns-in-Ok
returns-in-Ok g c =
    walk_at (sym (expr_inside c.args.expr.now)) (walk_on (rw c.in-Ok.is at c.walk_one.ensures)
    (walk_through c.walk_children.ensures c.requires.enters.promises))

pub returns-in-Err : goal.returns-in-Err
returns-in-Err g c = walk_at (sym (expr_inside c.args.expr.now)) (walk_stops (flat_map inside (children c.args.expr.now.node))
    (rw c.in-Err.is at c.walk_one.ensures))
