use Rattle.std.proofs.Common.{drop, reverse}
use Rattle.starlark_expected.proofs.Up.{UpTo}
use Rattle.starlark_expected.proofs.expected.read.Given as goal

abbrev pub invariant-loop-lexeme : goal.invariant-loop-lexeme
invariant-loop-lexeme l = UpTo l.lexemes (drop l.lexeme-index l.lexemes) (reverse l.due.words.items) l.due.named
