use Rattle.std.proofs.Common.{◌≡◌, ◌+◌, false, drop}
use Rattle.starlark_lexer.specs.Lines.{skip_len}
use Rattle.starlark_lexer.proofs.lines.skip_len.Given as goal

abbrev pub invariant-bytes : goal.invariant-bytes
invariant-bytes l = l.at + skip_len l.quiet l.joined (drop l.at l.rest) ≡ skip_len l.quiet false l.rest
