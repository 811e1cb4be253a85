use Rattle.std.proofs.Common.{◌≤◌, ◌-◌, length}
use Rattle.std.specs.List.{prefix_len}
use Rattle.starlark_lexer.specs.Classes.{is_space}
use Rattle.starlark_lexer.proofs.lines.spaces_len.Given as goal

abbrev pub invariant-fours : goal.invariant-fours
invariant-fours l = l.at ≤ prefix_len is_space l.rest

abbrev pub decreases-fours : goal.decreases-fours
decreases-fours l = length l.rest - l.at

abbrev pub invariant-ones : goal.invariant-ones
invariant-ones l = l.at ≤ prefix_len is_space l.rest

abbrev pub decreases-ones : goal.decreases-ones
decreases-ones l = length l.rest - l.at
