use Rattle.std.proofs.Common.{take, ◌∷◌, []}
use Rattle.std.specs.List.{flat_map}
use Rattle.starlark_tree.specs.Views.{expression_of}
use Rattle.starlark_validate.proofs.AddedExpressions.{SoFar}
use Rattle.starlark_validate.proofs.children.add_pairs.Given as goal

abbrev pub invariant-loop-pair : goal.invariant-loop-pair
invariant-loop-pair l = SoFar l.fn.found.items l.found.items (flat_map (λ p. expression_of p.0 ∷ expression_of p.1 ∷ []) (take l.pair-index l.pairs))
