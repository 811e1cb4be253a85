use Rattle.std.proofs.Common.{length, map, take, Ok}
use Rattle.std.specs.List.{flat_map}
use Rattle.starlark_tree.specs.Inside.{inside}
use Rattle.starlark_tree.specs.Places.{behind}
use Rattle.starlark_tree.specs.Views.{expression_of}
use Rattle.starlark_validate.specs.TestResults.{Tested}
use Rattle.starlark_validate.proofs.NodeParts.{inner_faults}
use Rattle.starlark_validate.proofs.expressions.+test_expression.Given as goal

abbrev pub decreases-test_expression : goal.decreases-test_expression
decreases-test_expression l = length (inside (expression_of l.expr.now))

abbrev pub invariant-loop-part : goal.invariant-loop-part
invariant-loop-part l =
    Tested l.fn.tests.codemap.now (flat_map (inner_faults l.fn.tests.dialect) (map (behind expression_of) (take l.part-index l.part-items))) (Ok tt)
