use Rattle.std.proofs.Common.{◌≡◌, ◌+◌, ◌<◌, ◌++◌, length, All}
use Rattle.std.specs.Prelude.{map}
use Rattle.memchr.specs.Find.{Passes, is_byte}
use Rattle.starlark_lexer.specs.Places.{line_begins}
use Rattle.starlark_lexer.proofs.codemap.line_begins.Given as goal

abbrev pub invariant-loop-at : goal.invariant-loop-at
invariant-loop-at l = record {
  table : l.begins.items ++ map (λ k. k + 1) l.at-iterator ≡ line_begins 0 l.text;
  within : All (λ k. (k < length l.text) × Passes (is_byte 10) l.text k) l.at-iterator;
}
