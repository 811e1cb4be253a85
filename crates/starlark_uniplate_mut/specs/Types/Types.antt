-- The type expressions of a tree, and a mutable walk over them: a call at each, then into what the calls left.
use Rattle.std.specs.Prelude.{◌≡◌, ℕ, ◌≤◌, List as Seq, [], ◌∷◌, length, Result, Ok, Err}
use Rattle.std.specs.Fn.{Mut}
use Rattle.std.specs.List.{flat_map}
use denote.Ref.{MutBor}
use Rattle.starlark_lexer.specs.Tokens.{nowhere}
use Rattle.starlark_lexer.specs.declared.span.Spanned.{Spanned}
use Rattle.starlark_tree.specs.Ast as t
use Rattle.starlark_tree.specs.Ast.{Payloads}
use Rattle.starlark_tree.specs.Children.{own_exprs}
use Rattle.starlark_tree.specs.Inside.{inside}
use Rattle.starlark_tree.specs.Places.{expr_children}
use Rattle.starlark_tree.specs.Views.{form_seen, parameter_seen, payloads}
use Rattle.starlark_tree.specs.Walks.{TakesMut, Writing, WritesIn, WritesSeen}
use Rattle.starlark_tree.specs.declared.ast.TypeExprP.{TypeExprP}
use Rattle.starlark_tree.specs.declared.ast.ParameterP.{ParameterP}
use Rattle.starlark_tree.specs.declared.ast.StmtP.{StmtP}
use Rattle.starlark_uniplate.specs.Types.{TypeExpression, type_seen, types_of, expr_types, form_types}
use Rattle.starlark_uniplate_mut.specs.FormFrames.{exprs_frame}
use Rattle.starlark_uniplate_mut.specs.Frames.{frame}

module _ {P : Payloads} where
  -- the same without types, and how many there were at each parameter
  abbrev pub untyped_parameter : t.Parameter P → t.Parameter P × ℕ
  untyped_parameter (t.Slash s) = (t.Slash s, 0)
  untyped_parameter (t.Normal s w p ty default) = (t.Normal s w p t.no_type default, length (types_of ty))
  untyped_parameter (t.NoArgs s) = (t.NoArgs s, 0)
  untyped_parameter (t.Args s w p ty) = (t.Args s w p t.no_type, length (types_of ty))
  untyped_parameter (t.KwArgs s w p ty) = (t.KwArgs s w p t.no_type, length (types_of ty))

  abbrev pub untyped_parameters : t.Parameters P → Seq (t.Parameter P × ℕ)
  untyped_parameters t.no_parameters = []
  untyped_parameters (t.parameters p ps) = untyped_parameter p ∷ untyped_parameters ps

  abbrev pub without_parameters : t.Expression P → t.Expression P
  without_parameters (t.expression s (t.Lambda ps e p)) = t.expression s (t.Lambda t.no_parameters e p)
  without_parameters (t.expression s other) = t.expression s other

  abbrev pub own_parameters : t.Expression P → t.Parameters P
  own_parameters (t.expression s (t.Lambda ps e p)) = ps
  own_parameters (t.expression s other) = t.no_parameters

  abbrev pub untyped : t.Expression P → t.Expression P × Seq (t.Parameter P × ℕ)
  untyped e = (without_parameters e, untyped_parameters (own_parameters e))

  -- how many type expressions are in an expression
  abbrev pub types_in : t.Expression P → ℕ
  types_in e = length (flat_map expr_types (inside e))

  abbrev pub untyped_form : t.Form P → t.Form P × (Seq (t.Parameter P × ℕ) × ℕ)
  untyped_form (t.Assign x ty e) = (t.Assign x t.no_type e, ([], length (types_of ty)))
  untyped_form (t.Def w p ps ty s q) = (t.Def w p t.no_parameters t.no_type s q, (untyped_parameters ps, length (types_of ty)))
  untyped_form other = (other, ([], 0))

  abbrev pub children_of : t.Expression P → Seq (t.Expression P)
  children_of (t.expression s shape) = expr_children shape

  abbrev pub frame_at : t.Expression P → t.Expression P
  frame_at (t.expression s shape) = t.expression s (frame shape)

module _ {P : Payloads} {F E : Type 0} (calls : Writing F (TypeExpression P) E) where
  mutual
    -- into an expression: calls at its own types, then into its children as the calls left them
    pub data IntoExpr : F → t.Expression P → t.Expression P → Result (Unit {0}) E → F → Type 0 where
      stops : {f : F} {x y : t.Expression P} {e : E} {h : F} → WritesIn expr_types untyped calls f x y (Err e) h → IntoExpr f x y (Err e) h
      enters : {f : F} {x m y : t.Expression P} {u : F} {r : Result (Unit {0}) E} {h : F} → WritesIn expr_types untyped calls f x m (Ok tt) u
          → frame_at y ≡ frame_at m
          → IntoEach u (children_of m) (children_of y) r h → IntoExpr f x y r h

    -- into one expression after another, up to the first Err
    pub data IntoEach : F → Seq (t.Expression P) → Seq (t.Expression P) → Result (Unit {0}) E → F → Type 0 where
      none : {f : F} → IntoEach f [] [] (Ok tt) f
      stops_at : {f : F} {x y : t.Expression P} (xs : Seq (t.Expression P)) {e : E} {h : F} → IntoExpr f x y (Err e) h → IntoEach f (x ∷ xs) (y ∷ xs) (Err e) h
      goes_on : {f : F} {x y : t.Expression P} {u : F} {xs ys : Seq (t.Expression P)} {r : Result (Unit {0}) E} {h : F} → IntoExpr f x y (Ok tt) u
          → IntoEach u xs ys r h
          → IntoEach f (x ∷ xs) (y ∷ ys) r h

  -- at a statement apart from the statements in it: calls at its own types, then into its expressions as the calls left them
  pub data IntoForm (f : F) (x y : t.Form P) : Result (Unit {0}) E → F → Type 0 where
    form_stops : {e : E} {h : F} → WritesIn form_types untyped_form calls f x y (Err e) h → IntoForm f x y (Err e) h
    form_enters : {m : t.Form P} {u : F} {r : Result (Unit {0}) E} {h : F} → WritesIn form_types untyped_form calls f x m (Ok tt) u
        → exprs_frame y ≡ exprs_frame m
        → IntoEach u (own_exprs m) (own_exprs y) r h → IntoForm f x y r h

  -- a state that calls from f leave, one after another, while they do not fail
  pub data After : F → F → Type 0 where
    at_first : {f : F} → After f f
    then_call : {f h k : F} (x y : TypeExpression P) → After f h → calls.call h x y (Ok tt) k → After f k

  -- a call may be made at any type, and again after each call; and it leaves no more type expressions in a type than there were
  pub record MayWriteTypes (f : F) : Type 0 where
    pub callable : (h : F) (x : TypeExpression P) → After f h → calls.may h x
    pub no_more : (h : F) (x y : TypeExpression P) (k : F) → After f h → calls.call h x y (Ok tt) k → types_in y.expr ≤ types_in x.expr

  abbrev pub form_calls : Writing F (t.Form P) E
  form_calls = record { may = λ f x. MayWriteTypes f; call = IntoForm }

-- the calls of a closure
abbrev pub type_calls : {P A B C D T F E : Type 0} → Mut F (MutBor (Spanned (TypeExprP P A B C D T)) × Unit {0}) (Result (Unit {0}) E
    × (MutBor (Spanned (TypeExprP P A B C D T)) × Unit {0}))
    → Writing F (TypeExpression (payloads A B C D T)) E
type_calls g = record { may = TakesMut type_seen g; call = WritesSeen type_seen g }

-- the same for trees in memory
module _ {P A B C D E : Type 0} where
  abbrev pub untyped_form_of : StmtP P A B C D E → t.Form (payloads A B C D E) × (Seq (t.Parameter (payloads A B C D E) × ℕ) × ℕ)
  untyped_form_of s = untyped_form (form_seen s)

  abbrev pub untyped_of : ParameterP P A B C D E → t.Parameter (payloads A B C D E) × ℕ
  untyped_of p = untyped_parameter (parameter_seen nowhere p)
