use Rattle.std.proofs.Common.{refl}
use Rattle.starlark_module.specs.Comments.Suppressions.{names_listed}
use Rattle.starlark_module.proofs.comments.lint_suppressions.names_listed.Goals as goal

pub pieces-init : goal.pieces-init
unfolding names_listed
pieces-init c = rw (c.new-names.ensures.items) refl
