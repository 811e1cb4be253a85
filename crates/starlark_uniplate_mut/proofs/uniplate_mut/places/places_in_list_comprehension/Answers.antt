use Rattle.starlark_tree.proofs.Nodes.{list_comprehension_children}
use Rattle.starlark_uniplate_mut.proofs.uniplate_mut.places.places_in_list_comprehension.Goals as goal

pub returns : goal.returns
returns g c = list_comprehension_children c.args.value.now c.args.first.now c.args.others.now
