use Rattle.std.proofs.Common.{◌≡◌, ◌++◌, map, take}
use Rattle.starlark_tree.specs.Places.{behind}
use Rattle.starlark_tree.specs.Views.{load_arg_of}
use Rattle.starlark_passes.proofs.lint.unused_loads.add_each.Given as goal

abbrev pub invariant-loop-symbol : goal.invariant-loop-symbol
invariant-loop-symbol l =
    map (behind load_arg_of) l.symbols.items ≡ map (behind load_arg_of) l.fn.symbols.items ++ map load_arg_of (take l.symbol-index l.loaded)
