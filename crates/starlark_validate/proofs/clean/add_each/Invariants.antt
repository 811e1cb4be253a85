use Rattle.std.proofs.Common.{◌≡◌, ◌++◌, map, take}
use Rattle.starlark_validate.specs.Clean.{placed_of, placed_there}
use Rattle.starlark_validate.proofs.clean.add_each.Given as goal

abbrev pub invariant-loop-statement : goal.invariant-loop-statement
invariant-loop-statement l = map placed_of l.found.items ≡ map placed_of l.fn.found.items ++ map (placed_there l.fn.around)
    (take l.statement-index l.statements)
