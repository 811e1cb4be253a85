-- What is changed in a statement by its kind.
use Rattle.std.proofs.Common.{◌≡◌, [], ◌∷◌, ◌++◌, Box, Global, ap, ◌∙◌}
use Rattle.starlark_lexer.specs.declared.span.Spanned.{Spanned}
use Rattle.starlark_tree.specs.declared.ast.AssignTargetP.{AssignTargetP}
use Rattle.starlark_tree.specs.declared.ast.ExprP.{ExprP}
use Rattle.starlark_tree.specs.declared.ast.StmtP as stmt
use Rattle.starlark_tree.specs.Children.{exprs_of_stmt}
use Rattle.starlark_tree.specs.Places.{exprs_in_target}
use Rattle.starlark_tree.specs.Views.{expression_of}
use Rattle.starlark_tree.proofs.Statements.{modify_exprs}
use Rattle.starlark_uniplate_mut.proofs.ByKind.{in_found}

-- an assignment that modifies: the conclusion begins with the fact that it is drawn from
module _ {P A B C D E : Type 0} where
  pub in_modified : (whole : stmt.StmtP P A B C D E) (x : Spanned (AssignTargetP P A B C D E)) (op : _) (e : Box (Spanned (ExprP P A B C D E)) Global)
      → whole ≡ stmt.AssignModify x op e
      → (whole ≡ stmt.AssignModify x op e) × (exprs_of_stmt whole ≡ exprs_in_target x.node ++ expression_of e.value ∷ [])
  in_modified whole x op e is = (is, ap exprs_of_stmt is ∙ modify_exprs x op e)

pub ruleset exprs = (in_found, in_modified)
