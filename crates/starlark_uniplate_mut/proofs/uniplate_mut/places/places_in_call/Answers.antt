use Rattle.starlark_tree.proofs.Nodes.{call_children}
use Rattle.starlark_uniplate_mut.proofs.uniplate_mut.places.places_in_call.Goals as goal

pub returns : goal.returns
returns g c = call_children c.args.callee.now c.args.args.now
