use Rattle.std.proofs.Common.{◌∷◌, ◌++◌, refl, ap}
use Rattle.starlark_tree.specs.Places.{maybe_exprs}
use Rattle.starlark_tree.specs.Views.{expression_of, maybe_of}
use Rattle.starlark_uniplate_mut.proofs.Writing.{write_at}
use Rattle.starlark_uniplate_mut.proofs.Written.{slice_written}
use Rattle.starlark_uniplate_mut.proofs.uniplate_mut.node.write_sliced.Goals as goal

pub returns : goal.returns
returns g c =
    let start = c.args.start.now in
    let stop = c.args.stop.now in
    let step = c.args.step.now in
    slice_written c.args.array.now c.write_slice.new.array start c.write_slice.new.start stop c.write_slice.new.stop step c.write_slice.new.step
    (write_at (ap (λ a. expression_of a ∷ (maybe_exprs (maybe_of start) ++ (maybe_exprs (maybe_of stop) ++ maybe_exprs (maybe_of step))))
    c.deref_mut.ensures.value) refl c.write_slice.ensures.calls) c.write_slice.ensures.start c.write_slice.ensures.stop c.write_slice.ensures.step
