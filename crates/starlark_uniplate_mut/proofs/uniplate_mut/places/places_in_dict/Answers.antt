use Rattle.starlark_tree.proofs.Nodes.{dict_children}
use Rattle.starlark_uniplate_mut.proofs.uniplate_mut.places.places_in_dict.Goals as goal

pub returns : goal.returns
returns g c = dict_children c.args.pairs.now
