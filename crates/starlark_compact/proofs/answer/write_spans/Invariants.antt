use Rattle.std.proofs.Common.{◌≡◌, ◌++◌, take}
use Rattle.std.specs.List.{flat_map}
use Rattle.starlark_compact.specs.Code.{bytes_of_span}
use Rattle.starlark_compact.proofs.answer.write_spans.Given as goal

abbrev pub invariant-loop-span : goal.invariant-loop-span
invariant-loop-span l = l.out.items ≡ l.initial.out.items ++ flat_map bytes_of_span (take l.span-index l.spans)
