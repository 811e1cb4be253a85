use Rattle.std.proofs.Common.{◌≡◌, map, take}
use Rattle.starlark_tree.specs.Places.{behind}
use Rattle.starlark_tree.specs.Views.{statement_of}
use Rattle.starlark_validate.proofs.parts.each.Given as goal

abbrev pub invariant-loop-statement : goal.invariant-loop-statement
invariant-loop-statement l = map (behind statement_of) l.found.items ≡ map statement_of (take l.statement-index l.statements)
