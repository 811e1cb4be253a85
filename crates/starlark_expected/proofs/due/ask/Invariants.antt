use Rattle.std.proofs.Common.{◌≡◌, reverse, length}
use Rattle.starlark_expected.specs.Words.{outcome}
use Rattle.starlark_expected.proofs.due.ask.Given as goal

abbrev pub invariant-loop-word : goal.invariant-loop-word
invariant-loop-word l = outcome (reverse l.words) l.named l.kind ≡ outcome (reverse l.rest) l.named l.kind

abbrev pub decreases-loop-word : goal.decreases-loop-word
decreases-loop-word l = length l.rest
