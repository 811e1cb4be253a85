use Rattle.std.specs.List.{flat_map}
use Rattle.starlark_tree.specs.Children.{exprs_of_stmt}
use Rattle.starlark_tree.specs.Inside.{inside}
use Rattle.starlark_tree.proofs.Steps.{walk_on, walk_stops}
use Rattle.starlark_uniplate.specs.Types.{expr_types}
use Rattle.starlark_uniplate.proofs.TypesOf.{parts_walked}
use Rattle.starlark_uniplate.proofs.uniplate.types.walk_own_types.Goals as goal

pub returns-in-Ok : goal.returns-in-Ok
returns-in-Ok g c =
    walk_on (rw c.in-Ok.is at c.walk_form_types.ensures)
    (parts_walked expr_types inside g.G.AtType.calls (exprs_of_stmt c.args.stmt.now) c.walk_exprs.ensures)

pub returns-in-Err : goal.returns-in-Err
returns-in-Err g c = walk_stops (flat_map expr_types (flat_map inside (exprs_of_stmt c.args.stmt.now))) (rw c.in-Err.is at c.walk_form_types.ensures)
