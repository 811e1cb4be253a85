use Rattle.starlark_validate.proofs.AddedExpressions.{then}
use Rattle.starlark_validate.proofs.children.add_three.Goals as goal

pub returns : goal.returns
returns c = then (rw c.in_ok-add_one.was at c.add_one.ensures) c.add_two.ensures
