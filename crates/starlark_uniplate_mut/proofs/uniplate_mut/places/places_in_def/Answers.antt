use Rattle.starlark_tree.proofs.Statements.{def_own}
use Rattle.starlark_uniplate_mut.proofs.uniplate_mut.places.places_in_def.Goals as goal

pub returns : goal.returns
returns g c = def_own c.args.def.now
