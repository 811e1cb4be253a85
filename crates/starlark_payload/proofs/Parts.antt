-- The steps of the parts of an expression, in terms of the parts in memory.
use Rattle.std.proofs.Common.{◌≡◌, Result, IfOk, Box, Vec, Global}
use Rattle.starlark_lexer.specs.declared.span.Spanned.{Spanned}
use Rattle.starlark_tree.specs.declared.ast.CallArgsP.{CallArgsP}
use Rattle.starlark_tree.specs.declared.ast.ClauseP.{ClauseP}
use Rattle.starlark_tree.specs.declared.ast.ExprP.{ExprP}
use Rattle.starlark_tree.specs.declared.ast.ForClauseP.{ForClauseP}
use Rattle.starlark_tree.specs.declared.ast.ArgumentP.{ArgumentP}
use Rattle.starlark_tree.specs.Views.{payloads, shape_seen, expression_of, argument_of, clause_seen, for_in_of}
use Rattle.starlark_payload.specs.Function.Steps.{◌⨾◌, Each}
use Rattle.starlark_payload.specs.Function.Mapped.{Calls, MapsExpression, MapsShape, MapsArgument, MapsForIn, MapsClause}

module _ {P A B C D E Q G H K L M F : Type 0} (calls : Calls (payloads A B C D E) (payloads G H K L M) F) where
  abbrev pub maps_spanned : Spanned (ExprP P A B C D E) → Spanned (ExprP Q G H K L M) → F → F → Type 0
  maps_spanned x y = MapsExpression calls (expression_of x) (expression_of y)

  abbrev pub maps_boxed : Box (Spanned (ExprP P A B C D E)) Global → Box (Spanned (ExprP Q G H K L M)) Global → F → F → Type 0
  maps_boxed x y = MapsExpression calls (expression_of x.value) (expression_of y.value)

  abbrev pub maps_two : Spanned (ExprP P A B C D E) × Spanned (ExprP P A B C D E) → Spanned (ExprP Q G H K L M) × Spanned (ExprP Q G H K L M) → F → F → Type 0
  maps_two x y = MapsExpression calls (expression_of x.0) (expression_of y.0) ⨾ MapsExpression calls (expression_of x.1) (expression_of y.1)

  abbrev pub maps_three : Spanned (ExprP P A B C D E) × Spanned (ExprP P A B C D E) × Spanned (ExprP P A B C D E) → Spanned (ExprP Q G H K L M)
      × Spanned (ExprP Q G H K L M) × Spanned (ExprP Q G H K L M) → F → F → Type 0
  maps_three x y = MapsExpression calls (expression_of x.0) (expression_of y.0) ⨾ MapsExpression calls (expression_of x.1) (expression_of y.1) ⨾ MapsExpression
      calls (expression_of x.2) (expression_of y.2)

  abbrev pub maps_pair : Box (Spanned (ExprP P A B C D E) × Spanned (ExprP P A B C D E)) Global
      → Box (Spanned (ExprP Q G H K L M) × Spanned (ExprP Q G H K L M)) Global → F → F → Type 0
  maps_pair x y = maps_two x.value y.value

  abbrev pub maps_arguments : CallArgsP P A B C D E → Vec (Spanned (ArgumentP Q G H K L M)) Global → F → F → Type 0
  maps_arguments x y = Each (λ x y. MapsArgument calls (argument_of x) (argument_of y)) x.args.items y.items

  abbrev pub maps_first : Box (ForClauseP P A B C D E) Global → Box (ForClauseP Q G H K L M) Global → F → F → Type 0
  maps_first x y = MapsForIn calls (for_in_of x.value) (for_in_of y.value)

  abbrev pub maps_clauses : Vec (ClauseP P A B C D E) Global → Vec (ClauseP Q G H K L M) Global → F → F → Type 0
  maps_clauses x y = Each (λ x y. MapsClause calls (clause_seen x) (clause_seen y)) x.items y.items

  abbrev pub maps_for_and_clauses : Box (ForClauseP P A B C D E) Global × Vec (ClauseP P A B C D E) Global → Box (ForClauseP Q G H K L M) Global
      × Vec (ClauseP Q G H K L M) Global → F → F → Type 0
  maps_for_and_clauses x y = maps_first x.0 y.0 ⨾ maps_clauses x.1 y.1

  -- a shape by its constructor
  pub shape_is : {N : Type 0} (x x' : ExprP P A B C D E) (n : Result (ExprP Q G H K L M) N) (before after : F)
      → x ≡ x' → IfOk n (λ y. MapsShape calls (shape_seen x') (shape_seen y) before after)
      → IfOk n (λ y. MapsShape calls (shape_seen x) (shape_seen y) before after)
  shape_is x x' n before after is h = rw is h
