use Rattle.std.proofs.Common.{◌≡◌, ℕ, ◌<◌, ◌≤◌, ◌*◌, take, length, get_or}
use Rattle.starlark_lexer.specs.Places.{char_rests}
use Rattle.starlark_lexer.proofs.codemap.char_rests_before_blocks.Given as goal

abbrev pub invariant-blocks-2 : goal.invariant-blocks-2
invariant-blocks-2 l = record {
  long : length l.rests.items ≡ l.block;
  table : (k : ℕ) → k < l.block → get_or l.rests.items k 0 ≡ char_rests (take (k * 64) l.text);
  now : l.before ≡ char_rests (take (l.block * 64) l.text);
  within : l.before ≤ l.block * 64;
}
