use Rattle.std.proofs.Common.{◌≡◌, ◌++◌, map, take}
use Rattle.std.specs.List.{flat_map}
use Rattle.starlark_passes.specs.Outline.Outline.{top_statements}
use Rattle.starlark_tree.specs.Places.{behind}
use Rattle.starlark_tree.specs.Views.{statement_of}
use Rattle.starlark_passes.proofs.outline.top_level_stmts.+add_top.Given as goal

abbrev pub invariant-loop-part : goal.invariant-loop-part
invariant-loop-part g l =
    map (behind statement_of) l.found.items ≡ map (behind statement_of) l.fn.found.items ++ flat_map (λ s. top_statements (statement_of s))
    (take l.part-index l.part-items)
