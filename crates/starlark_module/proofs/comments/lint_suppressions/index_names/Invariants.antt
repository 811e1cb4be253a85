use Rattle.std.proofs.Common.{◌≡◌, map}
use Rattle.starlark_module.specs.Comments.Building.{suppression}
use Rattle.starlark_module.proofs.comments.lint_suppressions.index_names.Given as goal

abbrev pub invariant-loop-at : goal.invariant-loop-at
invariant-loop-at l = map suppression l.suppressions.items ≡ map suppression l.fn.suppressions.items
