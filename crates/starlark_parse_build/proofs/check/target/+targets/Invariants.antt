use Rattle.std.proofs.Common.{◌≡◌, ◌≤◌, length}
use Rattle.starlark_tree.specs.Ast.{expressions_of}
use Rattle.starlark_parse_held.specs.Held.{expressions_in, rest_of, targets_in, unboxed_of}
use Rattle.starlark_spec.specs.Targets as targets
use Rattle.starlark_spec.specs.Targets.{map_ok}
use Rattle.starlark_parse_build.proofs.CheckLemmas.TargetLemmas.{append, weight, weights}
use Rattle.starlark_parse_build.proofs.check.target.+targets.Given as goal

abbrev pub decreases-tree_target : goal.decreases-tree_target
decreases-tree_target l = weight (unboxed_of l.value)

abbrev pub decreases-parts : goal.decreases-parts
decreases-parts l = weights (expressions_of (expressions_in l.values))

abbrev pub decreases-parts-parts : goal.decreases-parts-parts
decreases-parts-parts l = length (rest_of l.rest)

abbrev pub invariant-parts-parts : goal.invariant-parts-parts
invariant-parts-parts l =
    (targets.parts (expressions_of (expressions_in l.fn.values)) ≡ map_ok (append (targets_in l.targets)) (targets.parts (expressions_of (rest_of l.rest))))
    × (weights (expressions_of (rest_of l.rest)) ≤ weights (expressions_of (expressions_in l.fn.values)))
