use Rattle.std.proofs.Common.{◌≡◌, ◌++◌, map, take}
use Rattle.std.specs.List.{flat_map}
use Rattle.starlark_syntax.specs.tree.Names.{name_of}
use Rattle.starlark_syntax.specs.tree.Places.{behind}
use Rattle.starlark_syntax.specs.tree.Views.{statement_of}
use Rattle.starlark_examples.specs.UnusedNames.{bound_names}
use Rattle.starlark_examples.proofs.unused_names.+add_bound.Given as goal

abbrev pub invariant-loop-arg : goal.invariant-loop-arg
invariant-loop-arg l =
    map (behind name_of) l.names.items ≡ map (behind name_of) l.fn.names.items ++ map (λ arg. name_of arg.local) (take l.arg-index l.arg-items)

abbrev pub invariant-loop-part : goal.invariant-loop-part
invariant-loop-part l =
    map (behind name_of) l.names.items ≡ map (behind name_of) l.fn.names.items ++ flat_map (λ x. bound_names (statement_of x)) (take l.part-index l.part-items)
