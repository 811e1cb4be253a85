use Rattle.std.proofs.Common.{take}
use Rattle.std.specs.List.{flat_map}
use Rattle.starlark_tree.specs.Places.{exprs_in_parameter}
use Rattle.starlark_validate.proofs.AddedExpressions.{SoFar}
use Rattle.starlark_validate.proofs.children.add_parameters.Given as goal

abbrev pub invariant-loop-parameter : goal.invariant-loop-parameter
invariant-loop-parameter l = SoFar l.fn.found.items l.found.items (flat_map (λ p. exprs_in_parameter p.node) (take l.parameter-index l.parameters))
