use Rattle.starlark_tree.specs.Children.{expr}
use Rattle.starlark_uniplate.proofs.Shown.{walk_shown}
use Rattle.starlark_uniplate.proofs.uniplate.visit.walk_expr_parts.Goals as goal

pub returns : goal.returns
returns g c = walk_shown expr c.walk_children.ensures
