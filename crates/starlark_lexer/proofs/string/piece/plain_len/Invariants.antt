use Rattle.std.proofs.Common.{◌≤◌, ◌-◌, length}
use Rattle.std.specs.List.{prefix_len}
use Rattle.starlark_lexer.specs.Pieces as spec
use Rattle.starlark_lexer.proofs.string.piece.plain_len.Given as goal

abbrev pub invariant-fours : goal.invariant-fours
invariant-fours l = l.at ≤ prefix_len (spec.is_plain l.style) l.bytes

abbrev pub decreases-fours : goal.decreases-fours
decreases-fours l = length l.bytes - l.at

abbrev pub invariant-ones : goal.invariant-ones
invariant-ones l = l.at ≤ prefix_len (spec.is_plain l.style) l.bytes

abbrev pub decreases-ones : goal.decreases-ones
decreases-ones l = length l.bytes - l.at
