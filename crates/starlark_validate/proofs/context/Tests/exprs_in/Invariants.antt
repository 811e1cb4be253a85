use Rattle.std.proofs.Common.{map, take, Ok}
use Rattle.std.specs.List.{flat_map}
use Rattle.starlark_tree.specs.Places.{behind}
use Rattle.starlark_tree.specs.Views.{expression_of}
use Rattle.starlark_validate.specs.KeptTreeFaults.{in_expression}
use Rattle.starlark_validate.specs.TestResults.{Tested}
use Rattle.starlark_validate.proofs.context.Tests.exprs_in.Given as goal

abbrev pub invariant-loop-expr : goal.invariant-loop-expr
invariant-loop-expr l = Tested l.self.codemap.now (flat_map (in_expression l.self.dialect) (map (behind expression_of) (take l.expr-index l.expr-items)))
    (Ok tt)
