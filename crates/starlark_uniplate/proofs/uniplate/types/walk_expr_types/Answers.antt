use Rattle.std.proofs.Common.{ap, sym}
use Rattle.starlark_tree.proofs.WalkConversions.{walk_at}
use Rattle.starlark_uniplate.specs.Types.{types_of_expr}
use Rattle.starlark_uniplate.proofs.uniplate.types.walk_expr_types.Goals as goal

pub returns-in-Lambda : goal.returns-in-Lambda
returns-in-Lambda g c = walk_at (ap types_of_expr (sym c.in-Lambda.is)) c.walk_lambda_types.ensures
