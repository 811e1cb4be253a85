use Rattle.std.proofs.Common.{map, refl, ap}
use Rattle.std.specs.Vec.{with_items}
use Rattle.starlark_tree.specs.Views.{expression_of}
use Rattle.starlark_uniplate_mut.proofs.Writing.{write_at}
use Rattle.starlark_uniplate_mut.proofs.Written.{fstring_written, items_as_called}
use Rattle.starlark_uniplate_mut.proofs.uniplate_mut.node.write_fstring.Goals as goal

pub returns : goal.returns
returns g c =
    let old = c.args.format.now in
    let new = record old { node = record old.node { expressions = with_items old.node.expressions c.write_each.new.items } } in
    let walk = write_at (ap (map expression_of) c.deref_mut.ensures.value) refl c.write_each.ensures in
    fstring_written old new c.write_each.new.items (items_as_called old.node.expressions c.write_each.new.items walk) refl refl walk
