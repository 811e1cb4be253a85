use Rattle.std.proofs.Common.{sym}
use Rattle.starlark_tree.proofs.WalkConversions.{walk_at}
use Rattle.starlark_uniplate.proofs.uniplate.expression.walk_more_clauses.Goals as goal

pub returns : goal.returns
returns g c = walk_at (sym c.more_clauses.ensures) c.walk_clauses.ensures
