use Rattle.starlark_uniplate.proofs.Calls.{went}
use Rattle.starlark_uniplate.proofs.uniplate.visit.show_children.Goals as goal

pub returns : goal.returns
returns g c = went (rw c.in-Ok.is at c.walk_parent.ensures)
