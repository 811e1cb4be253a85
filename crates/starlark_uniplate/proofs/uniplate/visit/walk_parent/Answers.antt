use Rattle.std.proofs.Common.{ap, sym}
use Rattle.starlark_tree.proofs.WalkConversions.{walk_at}
use Rattle.starlark_uniplate.specs.Parents.{children_of_parent}
use Rattle.starlark_uniplate.proofs.uniplate.visit.walk_parent.Goals as goal

pub returns-in-Stmt : goal.returns-in-Stmt
returns-in-Stmt g c = walk_at (ap children_of_parent (sym c.in-Stmt.is)) c.walk_parts.ensures

pub returns-in-Expr : goal.returns-in-Expr
returns-in-Expr g c = walk_at (ap children_of_parent (sym c.in-Expr.is)) c.walk_expr_parts.ensures

pub returns-in-Def : goal.returns-in-Def
returns-in-Def g c = walk_at (ap children_of_parent (sym c.in-Def.is)) c.walk_def_parts.ensures
