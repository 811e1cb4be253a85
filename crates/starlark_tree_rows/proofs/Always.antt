-- Closures that may always be called, and visitors that accept every statement and every expression.
use Rattle.std.specs.Prelude.{List}
pub use Rattle.starlark_tree.proofs.Callers.{may_always}
use Rattle.starlark_tree.specs.Ast.{Payloads, Statement, Expression}
use Rattle.starlark_tree.specs.Children.{Child, expr, stmt}
use Rattle.starlark_tree.specs.Walks.{MayWriteBy, Writing}
use Rattle.starlark_uniplate_mut.specs.WrittenChildren.{child_calls, may_child}

module _ {P : Payloads} {S E : Type 0} (stmts : Writing S (Statement P) E) (exprs : Writing S (Expression P) E) where
  at_child : ((s : S) (x : Statement P) → stmts.may s x) → ((s : S) (x : Expression P) → exprs.may s x) → (s : S) (x : Child P) → may_child stmts exprs s x
  at_child at_stmt at_expr s (stmt x) = at_stmt s x
  at_child at_stmt at_expr s (expr x) = at_expr s x

  pub may_write_children : ((s : S) (x : Statement P) → stmts.may s x) → ((s : S) (x : Expression P) → exprs.may s x) → (s : S) (xs : List (Child P))
      → MayWriteBy (child_calls stmts exprs) s xs
  may_write_children at_stmt at_expr = may_always (at_child at_stmt at_expr)
