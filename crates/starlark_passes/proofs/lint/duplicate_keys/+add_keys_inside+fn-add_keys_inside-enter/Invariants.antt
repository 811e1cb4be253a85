use Rattle.std.proofs.Common.{◌+◌, ◌*◌, length}
use Rattle.starlark_tree.specs.Inside.{inside}
use Rattle.starlark_tree.specs.Views.{expression_of}
use Rattle.starlark_passes.proofs.lint.duplicate_keys.+add_keys_inside+fn-add_keys_inside-enter.Given as goal

abbrev pub decreases-add_keys_inside : goal.decreases-add_keys_inside
decreases-add_keys_inside l = 2 * length (inside (expression_of l.expr.now))

abbrev pub decreases-enter : goal.decreases-enter
decreases-enter l = 2 * length (inside (expression_of l.child.now)) + 1
