use Rattle.std.proofs.Common.{length}
use Rattle.starlark_tree.specs.Views.{statement_of}
use Rattle.starlark_uniplate.specs.Statements.{statement_inside}
use Rattle.starlark_uniplate.proofs.uniplate.inside.+statements.Given as goal

abbrev pub decreases-walk_stmts_inside : goal.decreases-walk_stmts_inside
decreases-walk_stmts_inside g l = length (statement_inside (statement_of l.stmt.now))
