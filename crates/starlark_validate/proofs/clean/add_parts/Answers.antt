use Rattle.std.proofs.Common.{map, ap, ◌∙◌}
use Rattle.starlark_validate.specs.Clean.{placed_of, placed_there}
use Rattle.starlark_validate.specs.Walks.Statements.{around_of}
use Rattle.starlark_validate.proofs.PlacedParts.{added_at, block_parts}
use Rattle.starlark_validate.proofs.clean.add_parts.Goals as goal

pub returns-in-Statements : goal.returns-in-Statements
returns-in-Statements c =
    added_at c.add_each.result (map placed_of c.add_each.new.found.items) (map placed_of c.args.found.now.items)
    (ap (map (placed_there c.within-around.result)) c.deref.ensures.value
    ∙ block_parts c.within-around.result (around_of c.args.around) c.in-Statements.parts c.args.statement.now.node c.in-Statements.is c.within-around.ensures)
    c.add_each.ensures
