use Rattle.std.proofs.Common.{◌∷◌, [], ap, sym}
use Rattle.starlark_tree.specs.Views.{expression_of}
use Rattle.starlark_tree.proofs.Nodes.{slice_children}
use Rattle.starlark_tree.proofs.WalkConversions.{walk_at}
use Rattle.starlark_uniplate.proofs.Turns.{stops_at, then_on}
use Rattle.starlark_uniplate.proofs.uniplate.node.walk_slice.Goals as goal

pub returns-in-Ok : goal.returns-in-Ok
returns-in-Ok g c =
    walk_at (sym (slice_children c.args.array.now c.args.start.now c.args.stop.now c.args.step.now))
    (then_on c.in-Ok.is (walk_at (ap (λ e. expression_of e ∷ []) c.deref.ensures) c.walk_one.ensures) c.walk_bounds.ensures)

pub returns-in-Err : goal.returns-in-Err
returns-in-Err g c =
    walk_at (sym (slice_children c.args.array.now c.args.start.now c.args.stop.now c.args.step.now))
    (stops_at _ c.in-Err.is (walk_at (ap (λ e. expression_of e ∷ []) c.deref.ensures) c.walk_one.ensures))
