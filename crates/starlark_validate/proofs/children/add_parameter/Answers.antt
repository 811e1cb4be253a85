use Rattle.starlark_validate.proofs.AddedExpressions.{then, at_places}
use Rattle.starlark_tree.proofs.Nodes.{normal_at}
use Rattle.starlark_validate.proofs.children.add_parameter.Goals as goal

pub returns-in_ok-add_type-in-Normal : goal.returns-in_ok-add_type-in-Normal
returns-in_ok-add_type-in-Normal c = at_places (normal_at c.in-Normal.ty c.in-Normal.default c.in-Normal.is)
    (then (rw c.in_ok-add_type-in-Normal.was at c.add_type.ensures) c.add_maybe.ensures)
