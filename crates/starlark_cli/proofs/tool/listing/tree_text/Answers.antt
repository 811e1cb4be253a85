use Rattle.starlark_tree.specs.Printed.{printed_stmt}
use Rattle.starlark_cli.proofs.tool.listing.tree_text.Goals as goal

pub returns : goal.returns
unfolding printed_stmt
returns c = rw c.statement.ensures at c.in_ok-printed.ensures.ok
