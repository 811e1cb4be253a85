use Rattle.std.proofs.Common.{sym}
use Rattle.starlark_tree.proofs.WalkConversions.{walk_at}
use Rattle.starlark_uniplate.proofs.uniplate.node.walk_dict.Goals as goal

pub returns : goal.returns
returns g c = walk_at (sym c.entries.ensures) c.walk_pairs.ensures
