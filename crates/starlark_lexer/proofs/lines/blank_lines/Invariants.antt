use Rattle.std.proofs.Common.{◌≡◌, ◌+◌, ◌-◌, ◌≤◌, length, drop}
use Rattle.starlark_lexer.specs.Lines.{blank_lines_len}
use Rattle.starlark_lexer.proofs.lines.blank_lines.Given as goal

abbrev pub invariant-lines : goal.invariant-lines
invariant-lines l = record {
  within : l.at ≤ length l.rest;
  blank : l.at + blank_lines_len (drop l.at l.rest) ≡ blank_lines_len l.rest;
}

abbrev pub decreases-lines : goal.decreases-lines
decreases-lines l = length l.rest - l.at
