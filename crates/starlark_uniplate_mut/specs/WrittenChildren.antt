-- What a visitor of the children of statements may do: at a statement, and at an expression.
use Rattle.std.specs.Prelude.{Result}
use Rattle.starlark_tree.specs.Ast as t
use Rattle.starlark_tree.specs.Ast.{Payloads}
use Rattle.starlark_tree.specs.Children.{Child, expr, stmt}
use Rattle.starlark_tree.specs.Walks.{Writing}

module _ {P : Payloads} {S E : Type 0} (stmts : Writing S (t.Statement P) E) (exprs : Writing S (t.Expression P) E) where
  abbrev pub may_child : S → Child P → Type 0
  may_child s (stmt x) = stmts.may s x
  may_child s (expr x) = exprs.may s x

  -- a statement stays a statement, and an expression an expression
  abbrev pub call_child : S → Child P → Child P → Result (Unit {0}) E → S → Type 0
  call_child s (stmt x) (stmt y) r u = stmts.call s x y r u
  call_child s (stmt x) (expr y) r u = ⊥
  call_child s (expr x) (stmt y) r u = ⊥
  call_child s (expr x) (expr y) r u = exprs.call s x y r u

  abbrev pub child_calls : Writing S (Child P) E
  child_calls = record { may = may_child; call = call_child }
