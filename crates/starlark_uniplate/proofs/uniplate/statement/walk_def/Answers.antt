use Rattle.std.proofs.Common.{sym}
use Rattle.starlark_tree.proofs.WalkConversions.{walk_at}
use Rattle.starlark_uniplate.proofs.uniplate.statement.walk_def.Goals as goal

pub returns : goal.returns
returns g c = walk_at (sym c.def_parameters.ensures.exprs) c.walk_signature.ensures
