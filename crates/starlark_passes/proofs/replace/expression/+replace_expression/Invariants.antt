use Rattle.starlark_tree.specs.Inside.{inside}
use Rattle.starlark_tree.specs.Views.{expression_of}
use Rattle.starlark_passes.specs.Replace.Entering.{weights}
use Rattle.starlark_passes.proofs.replace.expression.+replace_expression.Given as goal

abbrev pub decreases-replace_expression : goal.decreases-replace_expression
decreases-replace_expression l = weights (inside (expression_of l.expr.now))
