use Rattle.starlark_tree.specs.Views.{expression_of}
use Rattle.starlark_uniplate_mut.specs.Types.Types.{types_in}
use Rattle.starlark_uniplate_mut.proofs.types.into.+walk_typed.Given as goal

abbrev pub decreases-walk_typed : goal.decreases-walk_typed
decreases-walk_typed g l = types_in (expression_of l.expr.now)
