use Rattle.std.proofs.Common.{◌≡◌, ◌-◌, ◌≤◌, ◌++◌, take, drop, string_bytes}
use Rattle.std.specs.List.{flat_map}
use Rattle.std.specs.Str.{IsCharBoundary}
use Rattle.starlark_spec.specs.Trees.{doubled_byte}
use Rattle.starlark_parse_build.proofs.format.push_doubled.Given as goal

abbrev pub invariant-loop-at : goal.invariant-loop-at
invariant-loop-at l =
    (l.start ≤ l.at) × IsCharBoundary l.fn.text l.start
    × (string_bytes l.format ++ take (l.at - l.start) (drop l.start l.fn.text) ≡ string_bytes l.fn.format ++ flat_map doubled_byte (take l.at l.fn.text))
