-- The types of lambdas and of statements, by the parts of these.
use Rattle.std.proofs.Common.{◌≡◌, ◌+◌, List, [], ◌∷◌, ◌++◌, Result, arith, length, refl, ap, ◌∙◌}
use Rattle.std.specs.List.{flat_map}
use Rattle.starlark_lexer.specs.Tokens.{Span, span_of}
use Rattle.starlark_lexer.specs.declared.span.Spanned.{Spanned}
use Rattle.starlark_tree.specs.declared.ast.DefP.{DefP}
use Rattle.starlark_tree.specs.declared.ast.ExprP as expr
use Rattle.starlark_tree.specs.declared.ast.LambdaP.{LambdaP}
use Rattle.starlark_tree.specs.declared.ast.ParameterP as parameter
use Rattle.starlark_tree.specs.declared.ast.ParameterP.{ParameterP}
use Rattle.starlark_tree.specs.declared.ast.StmtP as stmt
use Rattle.starlark_tree.specs.Views.{all_parameters, boxed_type_of, parameter_seen}
use Rattle.starlark_tree.proofs.Rows.{parameters_seen_of}
use Rattle.starlark_tree.specs.Walks.{Calls, MayWalkBy, WalkBy}
use Rattle.starlark_uniplate.specs.Entering.{calls_at, inside_calls}
use Rattle.starlark_uniplate.specs.Types.{form_types_of, parameter_types, parameters_types, types_in_parameter, types_of, types_of_expr}
use Rattle.starlark_uniplate.proofs.NestedWalks.{may_through, walk_through}

module _ {P A B C D E : Type 0} where
  types_moved : (s : Span) (p : ParameterP P A B C D E) → parameter_types (parameter_seen s p) ≡ types_in_parameter p
  types_moved s parameter.Slash = refl
  types_moved s (parameter.Normal' w ty d) = refl
  types_moved s parameter.NoArgs = refl
  types_moved s (parameter.Args' w ty) = refl
  types_moved s (parameter.KwArgs' w ty) = refl

  types_listed : (xs : List (Spanned (ParameterP P A B C D E))) → parameters_types (all_parameters xs)
      ≡ flat_map (λ (p : Spanned (ParameterP P A B C D E)). types_in_parameter p.node) xs
  types_listed [] = refl
  types_listed (x ∷ xs) = ap (λ ys. ys ++ parameters_types (all_parameters xs)) (types_moved (span_of x.span) x.node)
      ∙ ap (λ ys. types_in_parameter x.node ++ ys) (types_listed xs)

  pub lambda_types : (l : LambdaP P A B C D E) → types_of_expr (expr.Lambda l)
      ≡ flat_map (λ (p : Spanned (ParameterP P A B C D E)). types_in_parameter p.node) l.params.items
  lambda_types l = ap parameters_types (parameters_seen_of l.params) ∙ types_listed l.params.items

  pub def_types : (d : DefP P A B C D E)
      → form_types_of (stmt.Def d) ≡ flat_map (λ (p : Spanned (ParameterP P A B C D E)). types_in_parameter p.node) d.params.items
      ++ types_of (boxed_type_of d.return_type)
  def_types d = ap (λ ys. ys ++ types_of (boxed_type_of d.return_type)) (types_listed d.params.items)

-- a walk over all inside nodes, at some parts of each
module _ {S X Y E : Type 0} (parts : X → List Y) (inside : X → List X) (by : Calls S Y E) {s : S} (xs : List X) where
  pub parts_walked : {r : Result (Unit {0}) E} {t : S} → WalkBy (inside_calls inside (calls_at parts by)) s xs r t
      → WalkBy by s (flat_map parts (flat_map inside xs)) r t
  parts_walked p = walk_through (walk_through p (λ s x r u h. h)) (λ s x r u h. h)

  pub may_parts : MayWalkBy by s (flat_map parts (flat_map inside xs)) → MayWalkBy (inside_calls inside (calls_at parts by)) s xs
  may_parts p =
      may_through {places = inside} {call = λ s x. WalkBy by s (parts x)} inside (length (flat_map inside xs) + 1)
      (may_through {places = parts} {call = by.call} parts (length (flat_map parts (flat_map inside xs)) + 1) p (omega arith) (λ s x small may. may)
      (λ s x u h. h))
      (omega arith) (λ s x small may. may) (λ s x u h. h)
