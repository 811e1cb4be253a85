use Rattle.std.proofs.Common.{}
use Rattle.std.specs.List.{sum_by}
use Rattle.starlark_parse_held.specs.Weight.{weight}
use Rattle.starlark_parse_held.proofs.dropping.drop_cut_off.Given as goal

abbrev pub decreases-loop-stmt : goal.decreases-loop-stmt
decreases-loop-stmt l = sum_by weight l.cut_off.items
