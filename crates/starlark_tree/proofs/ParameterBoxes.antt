-- The boxes in a parameter, as they are in memory and as the variants name them.
use Rattle.std.proofs.Common.{◌≡◌, Option, Some, None, option_map, Box, Global, refl}
use Rattle.starlark_lexer.specs.declared.span.Spanned.{Spanned}
use Rattle.starlark_tree.specs.declared.ast.AssignIdentP.{AssignIdentP}
use Rattle.starlark_tree.specs.declared.ast.ExprP.{ExprP}
use Rattle.starlark_tree.specs.declared.ast.ParameterP as names
use Rattle.starlark_tree.specs.declared.ast.TypeExprP.{TypeExprP}
use Rattle.starlark_tree.specs.Parts.{boxed_expression, boxed_type, with_value, with_type, with_default}

module _ {P A B C D E : Type 0} where
  pub expression_held : (o : Option (Box (Spanned (ExprP P A B C D E)) Global)) → option_map (λ (b : Box (Spanned (ExprP P A B C D E)) Global). b.value) o
      ≡ boxed_expression (names.back-ExprP-Slice-1 P A B C D E o)
  expression_held None = refl
  expression_held (Some b) = refl

  pub type_held : (o : Option (Box (Spanned (TypeExprP P A B C D E)) Global)) → option_map (λ (b : Box (Spanned (TypeExprP P A B C D E)) Global). b.value) o
      ≡ boxed_type (names.back-ParameterP-Normal-1 P A B C D E o)
  type_held None = refl
  type_held (Some b) = refl

  pub default_put : (name : Spanned (AssignIdentP P A B C D E)) (ty : Option (Box (Spanned (TypeExprP P A B C D E)) Global))
      (default : Option (Box (Spanned (ExprP P A B C D E)) Global)) (x : Spanned (ExprP P A B C D E))
      → names.Normal name ty (with_value default x) ≡ with_default (names.Normal name ty default) x
  default_put name ty None x = refl
  default_put name ty (Some b) x = refl

  pub normal_type_put : (name : Spanned (AssignIdentP P A B C D E)) (ty : Option (Box (Spanned (TypeExprP P A B C D E)) Global))
      (default : Option (Box (Spanned (ExprP P A B C D E)) Global)) (x : Spanned (TypeExprP P A B C D E))
      → names.Normal name (with_value ty x) default ≡ with_type (names.Normal name ty default) x
  normal_type_put name None default x = refl
  normal_type_put name (Some b) default x = refl

  pub args_type_put : (name : Spanned (AssignIdentP P A B C D E)) (ty : Option (Box (Spanned (TypeExprP P A B C D E)) Global))
      (x : Spanned (TypeExprP P A B C D E)) → names.Args name (with_value ty x) ≡ with_type (names.Args name ty) x
  args_type_put name None x = refl
  args_type_put name (Some b) x = refl

  pub kwargs_type_put : (name : Spanned (AssignIdentP P A B C D E)) (ty : Option (Box (Spanned (TypeExprP P A B C D E)) Global))
      (x : Spanned (TypeExprP P A B C D E)) → names.KwArgs name (with_value ty x) ≡ with_type (names.KwArgs name ty) x
  kwargs_type_put name None x = refl
  kwargs_type_put name (Some b) x = refl
