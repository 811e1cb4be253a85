use Rattle.std.proofs.Common.{◌≡◌, [], length, map}
use Rattle.std.specs.List.{flat_map}
use Rattle.starlark_tree.specs.Views.{statement_of}
use Rattle.starlark_validate.specs.Faults.{faults_in}
use Rattle.starlark_validate.specs.Clean.{all_in_placed, placed_of}
use Rattle.starlark_validate.proofs.PlacedParts.{placed_inside}
use Rattle.starlark_validate.proofs.clean.is_clean.Given as goal

abbrev pub invariant-loop-placed : goal.invariant-loop-placed
invariant-loop-placed l = flat_map (all_in_placed l.fn.tests.dialect) (map placed_of l.statements.items) ≡ []
    → faults_in l.fn.tests.dialect (statement_of l.fn.statement) ≡ []

abbrev pub decreases-loop-placed : goal.decreases-loop-placed
decreases-loop-placed l = length (flat_map placed_inside (map placed_of l.statements.items))
