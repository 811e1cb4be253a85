-- The source of a tree in memory, as marks on a page.
use Rattle.std.specs.Prelude.{ℕ, ◌-◌, List as Seq, [], ◌∷◌, ◌++◌, codes, map, flat_map, take, drop, true, false, Option, Some, None}
use Rattle.std.specs.Global.{Global}
use Rattle.std.specs.declared.boxed.Box.{Box}
use Rattle.starlark_lexer.specs.Tokens.{Text, Span, span_of, nowhere}
use Rattle.starlark_lexer.specs.declared.span.Spanned.{Spanned}
use Rattle.starlark_tree.specs.Views.{shape_seen, argument_seen, parameter_seen, target_seen, for_in_of, clause_seen}
use Rattle.starlark_tree.specs.Ast as t
use Rattle.starlark_tree.specs.declared.ast.ArgumentP.{ArgumentP}
use Rattle.starlark_tree.specs.declared.ast.AssignTargetP.{AssignTargetP}
use Rattle.starlark_tree.specs.declared.ast.ClauseP.{ClauseP}
use Rattle.starlark_tree.specs.declared.ast.ExprP.{ExprP}
use Rattle.starlark_tree.specs.declared.ast.ForClauseP.{ForClauseP}
use Rattle.starlark_tree.specs.declared.ast.ParameterP.{ParameterP}
use Rattle.starlark_tree.specs.declared.ast.TypeExprP.{TypeExprP}
use Rattle.starlark_source.specs.declared.level.Level.{Level}
use Rattle.starlark_source.specs.Pieces.{Pieces, escaped}
use Rattle.starlark_source.specs.Pages.{Draft, say, fault}
use Rattle.starlark_source.specs.Drafts.{draft, drafts}
use Rattle.starlark_source.specs.Formats.{filled, filled_after}
use Rattle.starlark_source.specs.Source.{at_level, shape_source, shape_list, argument_source, lambda_parameter, parameter_source}
use Rattle.starlark_source.specs.Source.{for_source, clause_source, target_source, kept_apart, shape_begins_with_brace}

-- the elements of a tuple in its parentheses
abbrev pub tuple_drafts : {X : Type 0} → (X → Draft) → Seq X → Draft
tuple_drafts one [] = []
tuple_drafts one (x ∷ []) = one x ++ say (codes ",")
tuple_drafts one (x ∷ y ∷ xs) = drafts one (codes ", ") (x ∷ y ∷ xs)

-- a tuple where a list is allowed
abbrev pub bare_drafts : {X : Type 0} → (X → Draft) → Seq X → Draft
bare_drafts one [] = say (codes "(") ++ (tuple_drafts one [] ++ say (codes ")"))
bare_drafts one (x ∷ []) = say (codes "(") ++ (tuple_drafts one (x ∷ []) ++ say (codes ")"))
bare_drafts one (x ∷ y ∷ xs) = drafts one (codes ", ") (x ∷ y ∷ xs)

module _ {P A B C D E : Type 0} where
  unfoldable pub drafted_expr : ExprP P A B C D E → Draft
  drafted_expr e = draft (shape_source (shape_seen e))

  unfoldable pub drafted_at : Level → ExprP P A B C D E → Draft
  drafted_at k e = draft (at_level k (t.expression nowhere (shape_seen e)))

  unfoldable pub drafted_list : ExprP P A B C D E → Draft
  drafted_list e = draft (shape_list (shape_seen e))

  unfoldable pub drafted_argument : ArgumentP P A B C D E → Draft
  drafted_argument a = draft (argument_source (argument_seen nowhere a))

  unfoldable pub drafted_lambda_parameter : ParameterP P A B C D E → Draft
  drafted_lambda_parameter p = draft (lambda_parameter (parameter_seen nowhere p))

  unfoldable pub drafted_parameter : ParameterP P A B C D E → Draft
  drafted_parameter p = draft (parameter_source (parameter_seen nowhere p))

  unfoldable pub drafted_target : AssignTargetP P A B C D E → Draft
  drafted_target x = draft (target_source false (target_seen nowhere x))

  -- where a list of targets is allowed
  unfoldable pub drafted_targets : AssignTargetP P A B C D E → Draft
  drafted_targets x = draft (target_source true (target_seen nowhere x))

  unfoldable pub drafted_for : ForClauseP P A B C D E → Draft
  drafted_for c = draft (for_source (for_in_of c))

  unfoldable pub drafted_clause : ClauseP P A B C D E → Draft
  drafted_clause c = draft (clause_source (clause_seen c))

  -- a key and its value
  abbrev pub drafted_pair : Spanned (ExprP P A B C D E) × Spanned (ExprP P A B C D E) → Draft
  drafted_pair p = drafted_expr p.0.node ++ (say (codes ": ") ++ drafted_expr p.1.node)

  -- with a text before it, if there is one
  abbrev pub drafted_if_there : Text → Option (Box (Spanned (ExprP P A B C D E)) Global) → Draft
  drafted_if_there before None = []
  drafted_if_there before (Some e) = say before ++ drafted_expr e.value.node

  abbrev pub drafted_type_if_there : Text → Option (Box (Spanned (TypeExprP P A B C D E)) Global) → Draft
  drafted_type_if_there before None = []
  drafted_type_if_there before (Some ty) = say before ++ drafted_expr ty.value.node.expr.node

  -- a lambda's parameter has no type
  abbrev pub drafted_no_type : Option (Box (Spanned (TypeExprP P A B C D E)) Global) → Draft
  drafted_no_type None = []
  drafted_no_type (Some ty) = fault (span_of ty.value.span) ∷ []

  -- the parameters of a lambda after a space, if there are any
  abbrev pub lambda_drafts : Seq (Spanned (ParameterP P A B C D E)) → Draft
  lambda_drafts [] = []
  lambda_drafts (p ∷ ps) = say (codes " ") ++ drafts (λ (p : Spanned (ParameterP P A B C D E)). drafted_lambda_parameter p.node) (codes ", ") (p ∷ ps)

  -- what is in a hole of an f-string
  unfoldable pub hole_source : Spanned (ExprP P A B C D E) → Pieces
  hole_source e = kept_apart (shape_begins_with_brace (shape_seen e.node)) (shape_source (shape_seen e.node))

  -- a format with these in its holes
  unfoldable pub drafted_filled : Span → Text → Seq (Spanned (ExprP P A B C D E)) → Draft
  drafted_filled s format es = draft (filled s format (map hole_source es))

  -- an expression in its hole, up to the end of the hole; without an expression no text denotes the hole
  abbrev pub drafted_hole : Span → Text → Seq (Spanned (ExprP P A B C D E)) → Draft
  drafted_hole s end [] = fault s ∷ []
  drafted_hole s end (e ∷ es) = say (codes "{") ++ (draft (hole_source e) ++ say end)

  -- what is left of a format: the text from one position to another, the marks from there on, and the expressions that are not used yet
  abbrev pub drafted_rest : Span → Text → Seq (Spanned (ExprP P A B C D E)) → ℕ → ℕ → ℕ → Draft
  drafted_rest s format es start at used =
      say (flat_map escaped (take (at - start) (drop start format))) ++ draft (filled_after s 0 (drop at format) (map hole_source (drop used es)))
