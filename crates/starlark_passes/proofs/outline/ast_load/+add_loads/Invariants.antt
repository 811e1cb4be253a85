use Rattle.std.proofs.Common.{◌≡◌, ◌++◌, map, take}
use Rattle.std.specs.List.{flat_map}
use Rattle.starlark_passes.specs.Outline.Listed.{in_file, listed}
use Rattle.starlark_passes.specs.Outline.Outline.{loads}
use Rattle.starlark_tree.specs.Views.{statement_of}
use Rattle.starlark_passes.proofs.outline.ast_load.+add_loads.Given as goal

abbrev pub invariant-loop-part : goal.invariant-loop-part
invariant-loop-part l =
    map listed l.found.items ≡ map listed l.fn.found.items ++ flat_map (λ s. map (in_file l.fn.codemap) (loads (statement_of s)))
    (take l.part-index l.part-items)
