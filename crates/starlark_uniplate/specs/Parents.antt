-- The children of what has children: of a statement, an expression or a definition.
use Rattle.std.specs.Prelude.{List as Seq, map}
use Rattle.starlark_tree.specs.Children.{Child, children_of_def, children_of_stmt, expr}
use Rattle.starlark_tree.specs.Places.{children}
use Rattle.starlark_tree.specs.Views.{payloads}
use Rattle.starlark_uniplate.specs.declared.uniplate.visit.Parent.{Parent}
use Rattle.starlark_uniplate.specs.declared.uniplate.visit.Parent.TheVariants as parents

module _ {P A B C D E : Type 0} where
  abbrev pub children_of_parent : Parent P A B C D E → Seq (Child (payloads A B C D E))
  children_of_parent (parents.Stmt s) = children_of_stmt s.now
  children_of_parent (parents.Expr e) = map expr (children e.now)
  children_of_parent (parents.Def d) = children_of_def d.now
