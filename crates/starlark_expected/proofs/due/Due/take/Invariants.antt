use Rattle.std.proofs.Common.{◌≡◌, reverse, length}
use Rattle.starlark_expected.specs.Words.{outcome}
use Rattle.starlark_expected.proofs.due.Due.take.Given as goal

abbrev pub invariant-loop-word : goal.invariant-loop-word
invariant-loop-word l =
    outcome (reverse l.fn.self.words.items) l.fn.self.named l.kind ≡ outcome (reverse l.self.words.items) l.self.named l.kind

abbrev pub decreases-loop-word : goal.decreases-loop-word
decreases-loop-word l = length l.self.words.items
