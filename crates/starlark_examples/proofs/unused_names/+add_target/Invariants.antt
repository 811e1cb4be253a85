use Rattle.std.proofs.Common.{◌≡◌, ◌++◌, map, take}
use Rattle.std.specs.List.{flat_map}
use Rattle.starlark_syntax.specs.tree.Names.{name_of}
use Rattle.starlark_syntax.specs.tree.Places.{behind, lvalues}
use Rattle.starlark_syntax.specs.tree.Views.{target_of}
use Rattle.starlark_examples.proofs.unused_names.+add_target.Given as goal

abbrev pub invariant-loop-part : goal.invariant-loop-part
invariant-loop-part l =
    map (behind name_of) l.names.items ≡ map (behind name_of) l.fn.names.items ++ flat_map (λ x. lvalues (target_of x)) (take l.part-index l.part-items)
