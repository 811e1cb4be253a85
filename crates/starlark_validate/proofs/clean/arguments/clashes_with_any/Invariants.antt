use Rattle.std.proofs.Common.{◌≡◌, false, map, take}
use Rattle.std.specs.List.{list_any}
use Rattle.starlark_tree.specs.Views.{argument_of}
use Rattle.starlark_validate.specs.Clean.{clashes}
use Rattle.starlark_validate.proofs.clean.arguments.clashes_with_any.Given as goal

abbrev pub invariant-loop-other : goal.invariant-loop-other
invariant-loop-other l = list_any (clashes (argument_of l.argument)) (map argument_of (take l.other-index l.before)) ≡ false
