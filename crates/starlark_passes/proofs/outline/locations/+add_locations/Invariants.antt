use Rattle.std.proofs.Common.{◌≡◌, ◌++◌, map, take}
use Rattle.std.specs.List.{flat_map}
use Rattle.starlark_passes.specs.Outline.Listed.{in_file, file_and_span}
use Rattle.starlark_passes.specs.Outline.Outline.{locations}
use Rattle.starlark_tree.specs.Views.{statement_of}
use Rattle.starlark_passes.proofs.outline.locations.+add_locations.Given as goal

abbrev pub invariant-loop-part : goal.invariant-loop-part
invariant-loop-part l =
    map file_and_span l.found.items ≡ map file_and_span l.fn.found.items ++ flat_map (λ s. map (in_file l.fn.codemap) (locations (statement_of s)))
    (take l.part-index l.part-items)
