use Rattle.std.proofs.Common.{map, take, Ok}
use Rattle.std.specs.List.{flat_map}
use Rattle.starlark_tree.specs.Views.{statement_of}
use Rattle.starlark_validate.specs.KeptTreeFaults.{in_statement}
use Rattle.starlark_validate.specs.TestResults.{Tested}
use Rattle.starlark_validate.proofs.context.Tests.+stmt.Given as goal

abbrev pub decreases-stmt : goal.decreases-stmt
decreases-stmt l = goal.size-stmt l

abbrev pub invariant-loop-part : goal.invariant-loop-part
invariant-loop-part l = Tested l.self.codemap.now (flat_map (in_statement l.self.dialect) (map statement_of (take l.part-index l.part-items))) (Ok tt)
