-- The height of the tree of a module whose tokens nest no deeper than a limit.
use Rattle.std.proofs.Common.{◌+◌, ◌-◌, [], subst, arith}
use Rattle.starlark_spec.specs.Grammar.{right_side}
use Rattle.starlark_spec.specs.Trees.{module_span, tree}
use Rattle.std.specs.Bool.{⊤}
use Rattle.starlark_depth.specs.Depths.{start}
use Rattle.starlark_depth.specs.Low.{LimitedTreesAreLow}
use Rattle.starlark_depth.proofs.Free.{Within, within_items, within_side}
use Rattle.starlark_depth.proofs.Claims.{claim}
use Rattle.starlark_depth.proofs.Parts.{block_or_one}

pub limited_trees_are_low : LimitedTreesAreLow
limited_trees_are_low n lexemes d within whole =
    let own = subst (Within n start) whole.derives.0 (within_items n start lexemes within (omega arith)) in
    let i = (claim d).of n 0 0 [] [] (omega arith) (within_side n (right_side d) [] ⊤ start [] whole.derives.1 own (λ t c w. tt)) in
    block_or_one (module_span d) (n + 6) (tree d) (i.low (n + 6) (omega arith)) (omega arith) (i.low (n + 6 - 1) (omega arith))
