use Rattle.std.proofs.Common.{map, refl, ap}
use Rattle.starlark_tree.specs.Views.{expression_of}
use Rattle.starlark_uniplate_mut.proofs.Writing.{write_at}
use Rattle.starlark_uniplate_mut.proofs.Written.{tuple_written}
use Rattle.starlark_uniplate_mut.proofs.uniplate_mut.node.write_tuple.Goals as goal

pub returns : goal.returns
returns g c = tuple_written c.args.items.now c.write_each.new.items (write_at (ap (map expression_of) c.deref_mut.ensures.value) refl c.write_each.ensures)
