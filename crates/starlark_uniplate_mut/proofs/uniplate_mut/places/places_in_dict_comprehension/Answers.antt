use Rattle.starlark_tree.proofs.Nodes.{dict_comprehension_children}
use Rattle.starlark_uniplate_mut.proofs.uniplate_mut.places.places_in_dict_comprehension.Goals as goal

pub returns : goal.returns
returns g c = dict_comprehension_children c.args.pair.now c.args.first.now c.args.others.now
