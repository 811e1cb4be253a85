-- What a walk over children visits, and the children of that.
use Rattle.std.specs.Prelude.{List as Seq, map, Result, Ok, Err}
use Rattle.std.specs.Fn.{Mut}
use Rattle.starlark_tree.specs.Children.{Child, children_of_stmt, expr, stmt}
use Rattle.starlark_tree.specs.Places.{children}
use Rattle.starlark_tree.specs.Views.{expression_of, payloads, statement_of}
use Rattle.starlark_tree.specs.Walks.{CallsSeen}
use Rattle.starlark_uniplate.specs.declared.uniplate.visit.Visit.{Visit}
use Rattle.starlark_uniplate.specs.declared.uniplate.visit.Visit.TheVariants as shown

module _ {P A B C D E : Type 0} where
  abbrev pub child_of : Visit P A B C D E → Child (payloads A B C D E)
  child_of (shown.Stmt s) = stmt (statement_of s.now)
  child_of (shown.Expr e) = expr (expression_of e.now)

  abbrev pub children_of_visit : Visit P A B C D E → Seq (Child (payloads A B C D E))
  children_of_visit (shown.Stmt s) = children_of_stmt s.now.node
  children_of_visit (shown.Expr e) = map expr (children e.now.node)

-- the call of a closure that cannot fail, as one that may fail: the walk continues
module _ {F A X E : Type 0} (seen : A → X) (g : Mut F (A × Unit {0}) (Unit {0})) where
  abbrev pub CallsOn : F → X → Result (Unit {0}) E → F → Type 0
  CallsOn f x (Ok v) f' = CallsSeen seen g f x tt f'
  CallsOn f x (Err e) f' = ⊥
