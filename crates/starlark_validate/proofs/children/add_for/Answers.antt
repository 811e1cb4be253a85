use Rattle.starlark_validate.proofs.AddedExpressions.{then, at_places}
use Rattle.starlark_tree.proofs.Nodes.{for_exprs_of}
use Rattle.std.proofs.Common.{sym}
use Rattle.starlark_validate.proofs.children.add_for.Goals as goal

pub returns : goal.returns
returns c = at_places (sym (for_exprs_of c.args.clause.now)) (then (rw c.in_ok-add_target.was at c.add_target.ensures) c.add_one.ensures)
