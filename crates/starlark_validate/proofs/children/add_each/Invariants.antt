use Rattle.std.proofs.Common.{map, take}
use Rattle.starlark_tree.specs.Views.{expression_of}
use Rattle.starlark_validate.proofs.AddedExpressions.{SoFar}
use Rattle.starlark_validate.proofs.children.add_each.Given as goal

abbrev pub invariant-loop-item : goal.invariant-loop-item
invariant-loop-item l = SoFar l.fn.found.items l.found.items (map expression_of (take l.item-index l.items))
