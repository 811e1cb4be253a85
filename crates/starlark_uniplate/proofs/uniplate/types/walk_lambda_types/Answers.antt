use Rattle.std.proofs.Common.{sym}
use Rattle.starlark_tree.proofs.WalkConversions.{walk_at}
use Rattle.starlark_uniplate.proofs.uniplate.types.walk_lambda_types.Goals as goal

pub returns : goal.returns
returns g c = walk_at (sym c.lambda_parameters.ensures.types) c.walk_parameter_types.ensures
