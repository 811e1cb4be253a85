use Rattle.std.proofs.Common.{length, map, take, Ok}
use Rattle.std.specs.List.{flat_map}
use Rattle.starlark_tree.specs.Places.{behind}
use Rattle.starlark_tree.specs.Views.{form_seen, statement_of}
use Rattle.starlark_validate.specs.Validity.{statement_faults}
use Rattle.starlark_validate.specs.Walks.Statements.{around_in, around_of}
use Rattle.starlark_validate.specs.TestResults.{Tested}
use Rattle.starlark_validate.proofs.NodeParts.{statements_inside}
use Rattle.starlark_validate.proofs.statements.+test_statement.Given as goal

abbrev pub decreases-test_statement : goal.decreases-test_statement
decreases-test_statement l = length (statements_inside (statement_of l.statement.now))

abbrev pub invariant-loop-part : goal.invariant-loop-part
invariant-loop-part l =
    Tested l.fn.tests.codemap.now
    (flat_map (statement_faults l.fn.tests.dialect (around_in (around_of l.fn.around) (form_seen l.fn.statement.node)))
    (map (behind statement_of) (take l.part-index l.part-items))) (Ok tt)
