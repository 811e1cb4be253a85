use Rattle.std.proofs.Common.{◌≡◌, ◌≤◌, take}
use Rattle.starlark_lexer.specs.Places as places
use Rattle.starlark_lexer.proofs.codemap.char_rests.Given as goal

abbrev pub invariant-bytes : goal.invariant-bytes
invariant-bytes l = record {
  counted : l.rests ≡ places.char_rests (take l.byte-index l.bytes);
  within : l.rests ≤ l.byte-index;
}
