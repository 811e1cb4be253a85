-- The types of a tree, as a walk visits them.
use Rattle.std.specs.Prelude.{List as Seq, [], ◌∷◌, ◌++◌}
use Rattle.std.specs.List.{flat_map}
use Rattle.starlark_lexer.specs.Tokens.{Span, span_of, nowhere}
use Rattle.starlark_lexer.specs.declared.span.Spanned.{Spanned}
use Rattle.starlark_tree.specs.Ast as t
use Rattle.starlark_tree.specs.Ast.{Payloads}
use Rattle.starlark_tree.specs.Children.{own_exprs}
use Rattle.starlark_tree.specs.Inside.{inside}
use Rattle.starlark_tree.specs.Views.{expression_of, form_seen, parameter_seen, payloads, shape_seen}
use Rattle.starlark_tree.specs.Walks.{Calls, MayWalkBy, WalkBy}
use Rattle.starlark_tree.specs.declared.ast.ExprP.{ExprP}
use Rattle.starlark_tree.specs.declared.ast.ParameterP.{ParameterP}
use Rattle.starlark_tree.specs.declared.ast.StmtP.{StmtP}
use Rattle.starlark_tree.specs.declared.ast.TypeExprP.{TypeExprP}
use Rattle.starlark_uniplate.specs.Statements.{statements_below}

-- a type annotation
pub record TypeExpression (P : Payloads) : Type 0 where
  pub span : Span
  pub expr : t.Expression P
  pub payload : P.type

abbrev pub type_seen : {P A B C D E : Type 0} → Spanned (TypeExprP P A B C D E) → TypeExpression (payloads A B C D E)
type_seen ty = record { span = span_of ty.span; expr = expression_of ty.node.expr; payload = ty.node.payload }

module _ {P : Payloads} where
  abbrev pub types_of : t.MaybeType P → Seq (TypeExpression P)
  types_of t.no_type = []
  types_of (t.typed s e p) = record { span = s; expr = e; payload = p } ∷ []

  abbrev pub parameter_types : t.Parameter P → Seq (TypeExpression P)
  parameter_types (t.Slash s) = []
  parameter_types (t.Normal s w p ty default) = types_of ty
  parameter_types (t.NoArgs s) = []
  parameter_types (t.Args s w p ty) = types_of ty
  parameter_types (t.KwArgs s w p ty) = types_of ty

  abbrev pub parameters_types : t.Parameters P → Seq (TypeExpression P)
  parameters_types t.no_parameters = []
  parameters_types (t.parameters p ps) = parameter_types p ++ parameters_types ps

  -- the types of an expression itself: those of a lambda's parameters
  abbrev pub shape_types : t.Shape P → Seq (TypeExpression P)
  shape_types (t.Lambda ps e p) = parameters_types ps
  shape_types other = []

  abbrev pub expr_types : t.Expression P → Seq (TypeExpression P)
  expr_types (t.expression s shape) = shape_types shape

  -- the types of a statement itself: that of an assignment; those of a definition's parameters, and its return type
  abbrev pub form_types : t.Form P → Seq (TypeExpression P)
  form_types (t.Assign x ty e) = types_of ty
  form_types (t.Def w p ps ty s q) = parameters_types ps ++ types_of ty
  form_types other = []

  -- the types of a statement itself, then those of all expressions in its own; without those of the statements in it
  abbrev pub own_types : t.Form P → Seq (TypeExpression P)
  own_types form = form_types form ++ flat_map expr_types (flat_map inside (own_exprs form))

  abbrev pub types_of_statement : t.Statement P → Seq (TypeExpression P)
  types_of_statement (t.statement s form) = own_types form

  -- all types of a statement: its own, then those of each statement in it, each before those inside it
  abbrev pub all_types : t.Form P → Seq (TypeExpression P)
  all_types form = own_types form ++ flat_map types_of_statement (statements_below form)

-- the same for trees in memory
module _ {P A B C D E : Type 0} where
  abbrev pub types_in_parameter : ParameterP P A B C D E → Seq (TypeExpression (payloads A B C D E))
  types_in_parameter p = parameter_types (parameter_seen nowhere p)

  abbrev pub types_of_expr : ExprP P A B C D E → Seq (TypeExpression (payloads A B C D E))
  types_of_expr e = shape_types (shape_seen e)

  abbrev pub form_types_of : StmtP P A B C D E → Seq (TypeExpression (payloads A B C D E))
  form_types_of s = form_types (form_seen s)

  abbrev pub own_types_of_stmt : StmtP P A B C D E → Seq (TypeExpression (payloads A B C D E))
  own_types_of_stmt s = own_types (form_seen s)

  abbrev pub types_in_stmt : StmtP P A B C D E → Seq (TypeExpression (payloads A B C D E))
  types_in_stmt s = all_types (form_seen s)
