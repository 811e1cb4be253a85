use Rattle.std.proofs.Common.{◌≡◌, [], length, map}
use Rattle.std.specs.List.{flat_map}
use Rattle.starlark_tree.specs.Inside.{inside}
use Rattle.starlark_tree.specs.Places.{behind}
use Rattle.starlark_tree.specs.Views.{expression_of}
use Rattle.starlark_validate.specs.Clean.{all_in}
use Rattle.starlark_validate.proofs.clean.are_clean.Given as goal

abbrev pub invariant-loop-expr : goal.invariant-loop-expr
invariant-loop-expr l =
    flat_map (all_in l.fn.tests.dialect) (map (behind expression_of) l.exprs.items) ≡ []
    → flat_map (all_in l.fn.tests.dialect) (map (behind expression_of) l.fn.exprs.items) ≡ []

abbrev pub decreases-loop-expr : goal.decreases-loop-expr
decreases-loop-expr l = length (flat_map inside (map (behind expression_of) l.exprs.items))
