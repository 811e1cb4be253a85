use Rattle.starlark_validate.proofs.AddedExpressions.{then}
use Rattle.starlark_validate.proofs.children.add_bounds.Goals as goal

pub returns : goal.returns
returns c =
    then (rw c.in_ok-add_maybe.was at c.add_maybe.ensures) (then (rw c.in_ok-add_maybe-2.was at c.add_maybe-2.ensures) c.add_maybe-3.ensures)
