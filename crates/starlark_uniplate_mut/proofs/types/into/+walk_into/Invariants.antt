use Rattle.std.proofs.Common.{length}
use Rattle.starlark_tree.specs.Inside.{inside}
use Rattle.starlark_tree.specs.Views.{expression_of}
use Rattle.starlark_uniplate_mut.proofs.types.into.+walk_into.Given as goal

abbrev pub decreases-walk_into : goal.decreases-walk_into
decreases-walk_into g l = length (inside (expression_of l.expr.now))
