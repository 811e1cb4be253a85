use Rattle.starlark_depth.proofs.Trees.{limited_trees_are_low}
use Rattle.starlark_depth.proofs.laws.limited_trees_are_low.Goals as goal

pub returns : goal.returns
returns c = limited_trees_are_low
