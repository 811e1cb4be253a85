use Rattle.std.proofs.Common.{map, take}
use Rattle.starlark_tree.specs.Parts.{argument_expression}
use Rattle.starlark_tree.specs.Views.{expression_of}
use Rattle.starlark_validate.proofs.AddedExpressions.{SoFar}
use Rattle.starlark_validate.proofs.children.add_arguments.Given as goal

abbrev pub invariant-loop-arg : goal.invariant-loop-arg
invariant-loop-arg l = SoFar l.fn.found.items l.found.items (map (λ a. expression_of (argument_expression a.node)) (take l.arg-index l.args))
