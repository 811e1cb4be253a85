use Rattle.std.proofs.Common.{length}
use Rattle.starlark_tree.specs.Inside.{inside}
use Rattle.starlark_tree.specs.Views.{expression_of}
use Rattle.starlark_uniplate.proofs.uniplate.inside.+expressions.Given as goal

abbrev pub decreases-walk_inside : goal.decreases-walk_inside
decreases-walk_inside g l = length (inside (expression_of l.expr.now))
