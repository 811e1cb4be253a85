use Rattle.std.specs.Vec.Iter.{into_iter_len}
use Rattle.starlark_tree.proofs.discard.VecIntoIterDiscard.discard.Given as goal

abbrev pub decreases-loop-item : goal.decreases-loop-item
decreases-loop-item g l = into_iter_len l.items
