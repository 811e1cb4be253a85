use Rattle.std.proofs.Common.{ap, sym}
use Rattle.std.specs.List.{flat_map}
use Rattle.starlark_tree.specs.Children.{stmts_of_stmt}
use Rattle.starlark_tree.specs.Views.{form_seen}
use Rattle.starlark_tree.proofs.WalkConversions.{walk_at}
use Rattle.starlark_tree.proofs.Steps.{walk_on, walk_stops}
use Rattle.starlark_uniplate.specs.Statements.{statement_inside, stmts_below_stmt}
use Rattle.starlark_uniplate.specs.Types.{types_of_statement}
use Rattle.starlark_uniplate.proofs.Inside.{below_own}
use Rattle.starlark_uniplate.proofs.TypesOf.{parts_walked}
use Rattle.starlark_uniplate.proofs.uniplate.types.walk_all_types.Goals as goal

pub returns-in-Ok : goal.returns-in-Ok
returns-in-Ok g c =
    walk_on (rw c.in-Ok.is at c.walk_own_types.ensures)
    (walk_at (ap (flat_map types_of_statement) (sym (below_own (form_seen c.args.stmt.now))))
    (parts_walked types_of_statement statement_inside g.G.AtType.calls (stmts_of_stmt c.args.stmt.now) c.walk_stmts.ensures))

pub returns-in-Err : goal.returns-in-Err
returns-in-Err g c = walk_stops (flat_map types_of_statement (stmts_below_stmt c.args.stmt.now)) (rw c.in-Err.is at c.walk_own_types.ensures)
