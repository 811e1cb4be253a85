use Rattle.std.proofs.Common.{◌≡◌, ◌-◌, ◌≤◌, ◌++◌, take, drop}
use Rattle.std.specs.List.{flat_map}
use Rattle.std.specs.Str.{IsCharBoundary}
use Rattle.starlark_source.specs.Pages.{Wrote, say}
use Rattle.starlark_source.specs.Pieces.{escaped}
use Rattle.starlark_source.proofs.literal.write_escaped.Given as goal

abbrev pub invariant-loop-at : goal.invariant-loop-at
invariant-loop-at l =
    (l.start ≤ l.at) × IsCharBoundary l.fn.text l.start
    × (flat_map escaped (take l.at l.fn.text) ≡ flat_map escaped (take l.start l.fn.text) ++ take (l.at - l.start) (drop l.start l.fn.text))
    × Wrote l.initial.page (say (flat_map escaped (take l.start l.fn.text))) l.page
