use Rattle.std.proofs.Common.{◌≡◌, ◌++◌, take}
use Rattle.std.specs.List.{flat_map}
use Rattle.starlark_compact.specs.Code.{bytes_of_statement}
use Rattle.starlark_compact.proofs.statement.+write.Given as goal

abbrev pub invariant-write_parts-loop-part : goal.invariant-write_parts-loop-part
invariant-write_parts-loop-part l = l.out.items ≡ l.initial.out.items ++ flat_map bytes_of_statement (take l.part-index l.parts)
