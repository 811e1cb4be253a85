use Rattle.std.proofs.Common.{length, map, take, Ok}
use Rattle.std.specs.List.{flat_map}
use Rattle.starlark_tree.specs.Places.{behind}
use Rattle.starlark_tree.specs.Views.{expression_of, statement_of}
use Rattle.starlark_validate.specs.Validity.{expression_faults}
use Rattle.starlark_validate.specs.TestResults.{Tested}
use Rattle.starlark_validate.proofs.NodeParts.{inner_faults, statements_inside}
use Rattle.starlark_validate.proofs.expressions.+test_expressions.Given as goal

abbrev pub decreases-test_expressions : goal.decreases-test_expressions
decreases-test_expressions l = length (statements_inside (statement_of l.statement.now))

abbrev pub invariant-loop-expr : goal.invariant-loop-expr
invariant-loop-expr l =
    Tested l.fn.tests.codemap.now (flat_map (inner_faults l.fn.tests.dialect) (map (behind expression_of) (take l.expr-index l.expr-items))) (Ok tt)

abbrev pub invariant-loop-part : goal.invariant-loop-part
invariant-loop-part l =
    Tested l.fn.tests.codemap.now (flat_map (expression_faults l.fn.tests.dialect) (map (behind statement_of) (take l.part-index l.part-items))) (Ok tt)
