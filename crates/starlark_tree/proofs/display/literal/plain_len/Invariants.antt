use Rattle.std.proofs.Common.{◌≤◌, ◌-◌, length}
use Rattle.std.specs.List.{prefix_len}
use Rattle.starlark_tree.specs.Escapes.{is_plain}
use Rattle.starlark_tree.proofs.display.literal.plain_len.Given as goal

abbrev pub invariant-fours : goal.invariant-fours
invariant-fours l = l.at ≤ prefix_len is_plain l.bytes

abbrev pub decreases-fours : goal.decreases-fours
decreases-fours l = length l.bytes - l.at

abbrev pub invariant-ones : goal.invariant-ones
invariant-ones l = l.at ≤ prefix_len is_plain l.bytes

abbrev pub decreases-ones : goal.decreases-ones
decreases-ones l = length l.bytes - l.at
