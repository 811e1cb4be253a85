use Rattle.std.proofs.Common.{length, map, take, Ok}
use Rattle.std.specs.List.{flat_map}
use Rattle.starlark_tree.specs.Inside.{inside}
use Rattle.starlark_tree.specs.Places.{behind}
use Rattle.starlark_tree.specs.Views.{expression_of}
use Rattle.starlark_validate.specs.KeptTreeFaults.{in_expression}
use Rattle.starlark_validate.specs.TestResults.{Tested}
use Rattle.starlark_validate.proofs.context.Tests.+expr.Given as goal

abbrev pub decreases-expr : goal.decreases-expr
decreases-expr l = length (inside (expression_of l.expr.now))

abbrev pub invariant-loop-child : goal.invariant-loop-child
invariant-loop-child l = Tested l.self.codemap.now (flat_map (in_expression l.self.dialect) (map (behind expression_of) (take l.child-index l.child-items)))
    (Ok tt)
