use Rattle.std.proofs.Common.{◌≡◌, true, take}
use Rattle.std.specs.List.{list_all}
use Rattle.starlark_source.specs.Literals.{is_byte}
use Rattle.starlark_source.proofs.literal.read_bytes.Given as goal

abbrev pub invariant-loop-at : goal.invariant-loop-at
invariant-loop-at l = list_all is_byte (take l.at l.fn.bytes) ≡ true
