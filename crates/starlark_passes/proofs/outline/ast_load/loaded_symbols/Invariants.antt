use Rattle.std.proofs.Common.{◌≡◌, map, take}
use Rattle.starlark_passes.specs.Outline.Listed.{symbol}
use Rattle.starlark_passes.specs.Outline.Outline.{symbols_of}
use Rattle.starlark_tree.specs.Views.{load_arg_of}
use Rattle.starlark_passes.proofs.outline.ast_load.loaded_symbols.Given as goal

abbrev pub invariant-loop-arg : goal.invariant-loop-arg
invariant-loop-arg l = map symbol l.symbols.entries ≡ symbols_of (map load_arg_of (take l.arg-index l.args))
