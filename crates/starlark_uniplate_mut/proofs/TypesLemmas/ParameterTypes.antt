-- The types of parameters, of expressions and of statements, by the parts of these.
use Rattle.std.proofs.Common.{◌≡◌, ℕ, ◌<◌, ◌+◌, zero, suc, arith, length-append, List, [], ◌∷◌, ◌++◌, length, map, take, get_or, Option, Result, Box, Global}
use Rattle.std.proofs.Common.{refl, sym, ap, ◌∙◌}
use Rattle.std.specs.List.{flat_map}
use Rattle.std.specs.Vec.{with_items}
use Rattle.std.proofs.lemmas.List.{length-map, take_more}
use Rattle.std.proofs.lemmas.List.Concat.{flat_map-append}
use Rattle.starlark_lexer.specs.Tokens.{Span, span_of, nowhere}
use Rattle.starlark_lexer.specs.declared.span.Spanned.{Spanned}
use Rattle.starlark_tree.specs.declared.ast.AssignIdentP.{AssignIdentP}
use Rattle.starlark_tree.specs.declared.ast.ArgumentP.TheBlock as Block
use Rattle.starlark_tree.specs.declared.ast.ExprP as expr
use Rattle.starlark_tree.specs.declared.ast.ExprP.{ExprP}
use Rattle.starlark_tree.specs.declared.ast.ExprP.TheVariants as variant
use Rattle.starlark_tree.specs.declared.ast.LambdaP.{LambdaP}
use Rattle.starlark_tree.specs.declared.ast.ParameterP as parameter
use Rattle.starlark_tree.specs.declared.ast.ParameterP.{ParameterP}
use Rattle.starlark_tree.specs.declared.ast.TypeExprP.{TypeExprP}
use Rattle.starlark_tree.specs.Ast as t
use Rattle.starlark_tree.specs.Views.{all_parameters, assign_word, boxed_type_of, expression_of, maybe_seen, parameter_of, parameter_seen, payloads, shape_seen}
use Rattle.starlark_tree.specs.Walks.{WriteBy, Writing, WritesIn}
use Rattle.starlark_tree.proofs.LentParts.{with_items_all}
use Rattle.starlark_tree.proofs.Rows.{maybe_type_seen_of, parameters_seen_of}
use Rattle.starlark_uniplate.specs.Types.{TypeExpression, expr_types, parameter_types, parameters_types, types_in_parameter, types_of}
use Rattle.starlark_uniplate_mut.specs.Types.Types.{untyped, untyped_of, untyped_parameter, untyped_parameters}
use Rattle.starlark_uniplate_mut.proofs.Writing.{write_at, write_length}

module _ {Q : t.Payloads} where
  abbrev placed : Span → t.Parameter Q × ℕ → t.Parameter Q × ℕ
  placed s (t.Slash r, n) = (t.Slash s, n)
  placed s (t.Normal r w p ty default, n) = (t.Normal s w p ty default, n)
  placed s (t.NoArgs r, n) = (t.NoArgs s, n)
  placed s (t.Args r w p ty, n) = (t.Args s w p ty, n)
  placed s (t.KwArgs r w p ty, n) = (t.KwArgs s w p ty, n)

module _ {P A B C D E : Type 0} where
  types_moved : (s : Span) (p : ParameterP P A B C D E) → parameter_types (parameter_seen s p) ≡ types_in_parameter p
  types_moved s parameter.Slash = refl
  types_moved s (parameter.Normal' w ty d) = refl
  types_moved s parameter.NoArgs = refl
  types_moved s (parameter.Args' w ty) = refl
  types_moved s (parameter.KwArgs' w ty) = refl

  untyped_moved : (s : Span) (p : ParameterP P A B C D E) → untyped_parameter (parameter_seen s p) ≡ placed s (untyped_of p)
  untyped_moved s parameter.Slash = refl
  untyped_moved s (parameter.Normal' w ty d) = refl
  untyped_moved s parameter.NoArgs = refl
  untyped_moved s (parameter.Args' w ty) = refl
  untyped_moved s (parameter.KwArgs' w ty) = refl

  pub untyped_same : (s : Span) (a b : ParameterP P A B C D E) → untyped_of b ≡ untyped_of a → untyped_parameter (parameter_seen s b)
      ≡ untyped_parameter (parameter_seen s a)
  untyped_same s a b e = untyped_moved s b ∙ ap (placed s) e ∙ sym (untyped_moved s a)

  pub types_listed : (xs : List (Spanned (ParameterP P A B C D E))) → parameters_types (all_parameters xs)
      ≡ flat_map (λ (p : Spanned (ParameterP P A B C D E)). types_in_parameter p.node) xs
  types_listed [] = refl
  types_listed (x ∷ xs) = ap (λ ys. ys ++ parameters_types (all_parameters xs)) (types_moved (span_of x.span) x.node)
      ∙ ap (λ ys. types_in_parameter x.node ++ ys) (types_listed xs)

  pub untyped_listed : (xs : List (Spanned (ParameterP P A B C D E))) → untyped_parameters (all_parameters xs)
      ≡ map (λ (p : Spanned (ParameterP P A B C D E)). untyped_parameter (parameter_of p)) xs
  untyped_listed [] = refl
  untyped_listed (x ∷ xs) = ap (λ ys. untyped_parameter (parameter_of x) ∷ ys) (untyped_listed xs)

  pub lambda_types : (s : Span) (l : LambdaP P A B C D E) → expr_types (t.expression s (shape_seen (expr.Lambda l)))
      ≡ flat_map (λ (p : Spanned (ParameterP P A B C D E)). types_in_parameter p.node) l.params.items
  lambda_types s l = ap parameters_types (parameters_seen_of l.params) ∙ types_listed l.params.items

  lambda_untyped : (s : Span) (l : LambdaP P A B C D E)
      → untyped (t.expression s (shape_seen (expr.Lambda l)))
      ≡ (
        t.expression s (t.Lambda t.no_parameters (expression_of l.body.value) l.payload),
        map (λ (p : Spanned (ParameterP P A B C D E)). untyped_parameter (parameter_of p)) l.params.items,
      )
  lambda_untyped s l =
      ap (λ ps. (t.expression s (t.Lambda t.no_parameters (expression_of l.body.value) l.payload), untyped_parameters ps)) (parameters_seen_of l.params)
      ∙ ap (λ ps. (t.expression s (t.Lambda t.no_parameters (expression_of l.body.value) l.payload), ps)) (untyped_listed l.params.items)

  -- the type of a parameter, by its parts
  pub normal_types : (name : Spanned (AssignIdentP P A B C D E)) (ty : Option (Box (Spanned (TypeExprP P A B C D E)) Global))
      (default : Option (Box (Spanned (ExprP P A B C D E)) Global))
      → types_in_parameter (parameter.Normal name ty default) ≡ types_of (boxed_type_of ty)
  normal_types name ty default = ap types_of (maybe_type_seen_of ty)

  pub args_types : (name : Spanned (AssignIdentP P A B C D E)) (ty : Option (Box (Spanned (TypeExprP P A B C D E)) Global))
      → types_in_parameter (parameter.Args name ty) ≡ types_of (boxed_type_of ty)
  args_types name ty = ap types_of (maybe_type_seen_of ty)

  pub kwargs_types : (name : Spanned (AssignIdentP P A B C D E)) (ty : Option (Box (Spanned (TypeExprP P A B C D E)) Global))
      → types_in_parameter (parameter.KwArgs name ty) ≡ types_of (boxed_type_of ty)
  kwargs_types name ty = ap types_of (maybe_type_seen_of ty)

module _ {P A B C D E S R : Type 0} {by : Writing S (TypeExpression (payloads A B C D E)) R} {s u : S} {r : Result (Unit {0}) R} where
  pub normal_written : (name : Spanned (AssignIdentP P A B C D E)) (x y : Option (Box (Spanned (TypeExprP P A B C D E)) Global))
      (default : Option (Box (Spanned (ExprP P A B C D E)) Global))
      → WriteBy by s (types_of (boxed_type_of x)) (types_of (boxed_type_of y)) r u → WritesIn types_in_parameter untyped_of by s
      (parameter.Normal name x default) (parameter.Normal name y default) r u
  normal_written name x y default p = record {
    calls = write_at (sym (normal_types name x default)) (sym (normal_types name y default)) p;
    rest =
        ap (λ ty. untyped_parameter (t.Normal nowhere (assign_word name) name.node.payload ty (maybe_seen (Block.back-ExprP-Slice-1 P A B C D E default))))
        (maybe_type_seen_of y)
        ∙ ap (λ n. (t.Normal nowhere (assign_word name) name.node.payload t.no_type (maybe_seen (Block.back-ExprP-Slice-1 P A B C D E default)), n))
        (write_length p)
        ∙ sym (ap (λ ty. untyped_parameter (t.Normal nowhere (assign_word name) name.node.payload ty
        (maybe_seen (Block.back-ExprP-Slice-1 P A B C D E default)))) (maybe_type_seen_of x));
  }

  pub args_written : (name : Spanned (AssignIdentP P A B C D E)) (x y : Option (Box (Spanned (TypeExprP P A B C D E)) Global))
      → WriteBy by s (types_of (boxed_type_of x)) (types_of (boxed_type_of y)) r u → WritesIn types_in_parameter untyped_of by s (parameter.Args name x)
      (parameter.Args name y) r u
  args_written name x y p = record {
    calls = write_at (sym (args_types name x)) (sym (args_types name y)) p;
    rest =
        ap (λ ty. untyped_parameter (t.Args nowhere (assign_word name) name.node.payload ty)) (maybe_type_seen_of y)
        ∙ ap (λ n. (t.Args nowhere (assign_word name) name.node.payload t.no_type, n)) (write_length p)
        ∙ sym (ap (λ ty. untyped_parameter (t.Args nowhere (assign_word name) name.node.payload ty)) (maybe_type_seen_of x));
  }

  pub kwargs_written : (name : Spanned (AssignIdentP P A B C D E)) (x y : Option (Box (Spanned (TypeExprP P A B C D E)) Global))
      → WriteBy by s (types_of (boxed_type_of x)) (types_of (boxed_type_of y)) r u → WritesIn types_in_parameter untyped_of by s (parameter.KwArgs name x)
      (parameter.KwArgs name y) r u
  kwargs_written name x y p = record {
    calls = write_at (sym (kwargs_types name x)) (sym (kwargs_types name y)) p;
    rest =
        ap (λ ty. untyped_parameter (t.KwArgs nowhere (assign_word name) name.node.payload ty)) (maybe_type_seen_of y)
        ∙ ap (λ n. (t.KwArgs nowhere (assign_word name) name.node.payload t.no_type, n)) (write_length p)
        ∙ sym (ap (λ ty. untyped_parameter (t.KwArgs nowhere (assign_word name) name.node.payload ty)) (maybe_type_seen_of x));
  }

  pub lambda_written : (at : Spanned (ExprP P A B C D E)) (l : LambdaP P A B C D E) (xs ws : List (Spanned (ParameterP P A B C D E))) → at.node ≡ expr.Lambda l
      → xs ≡ l.params.items
      → WritesIn (flat_map (λ (p : Spanned (ParameterP P A B C D E)). types_in_parameter p.node))
      (map (λ (p : Spanned (ParameterP P A B C D E)). untyped_parameter (parameter_of p))) by s xs ws r u
      → WritesIn (λ (e : Spanned (ExprP P A B C D E)). expr_types (expression_of e)) (λ (e : Spanned (ExprP P A B C D E)). untyped (expression_of e)) by s at
      (record at { node = expr.Lambda (record l { params = with_items l.params ws }) }) r u
  lambda_written at l xs ws is same p =
      let new = record l { params = with_items l.params ws } in
      let many : length ws ≡ length l.params.items =
      sym (length-map ws (λ (p : Spanned (ParameterP P A B C D E)). untyped_parameter (parameter_of p))) ∙ ap length p.rest
      ∙ length-map xs (λ (p : Spanned (ParameterP P A B C D E)). untyped_parameter (parameter_of p)) ∙ ap length same in
      let all : (with_items l.params ws).items ≡ ws = with_items_all l.params ws many in
      record {
        calls = write_at
            (ap (flat_map (λ (p : Spanned (ParameterP P A B C D E)). types_in_parameter p.node)) same ∙ sym (lambda_types (span_of at.span) l)
            ∙ sym (ap (λ n. expr_types (t.expression (span_of at.span) (shape_seen n))) is))
            (sym (lambda_types (span_of at.span) new ∙ ap (flat_map (λ (p : Spanned (ParameterP P A B C D E)). types_in_parameter p.node)) all))
            p.calls;
        rest =
            lambda_untyped (span_of at.span) new
            ∙ ap (λ ys. (
              t.expression (span_of at.span) (t.Lambda t.no_parameters (expression_of l.body.value) l.payload),
              map (λ (p : Spanned (ParameterP P A B C D E)). untyped_parameter (parameter_of p)) ys,
            )) all
            ∙ ap (λ ys. (t.expression (span_of at.span) (t.Lambda t.no_parameters (expression_of l.body.value) l.payload), ys))
            (p.rest ∙ ap (map (λ (p : Spanned (ParameterP P A B C D E)). untyped_parameter (parameter_of p))) same)
            ∙ sym (lambda_untyped (span_of at.span) l)
            ∙ sym (ap (λ n. untyped (t.expression (span_of at.span) (shape_seen n))) is);
      }

-- an expression that is not a lambda has no types of its own
module _ {P A B C D E : Type 0} where
  pub no_lambda : (s : Span) (node : ExprP P A B C D E) → ((l : LambdaP P A B C D E) → node ≡ expr.Lambda l → ⊥)
      → expr_types (t.expression s (shape_seen node)) ≡ []
  no_lambda s (expr.Lambda' shape row p body at payload) other =
      absurd
      (other _
      (sym (expr.roll-out-ExprP P A B C D E (expr.Lambda' shape row p body at payload))
      ∙ ap (expr.roll-ExprP P A B C D E) (variant.outs-Lambda' shape row p body at payload) ∙ variant.rolls-Lambda _))
  no_lambda s node other = refl

-- whether items have some
module _ {X Y : Type 0} (f : X → List Y) where
  pub some_in : (xs : List X) (i : ℕ) (x : X) → i < length xs → x ≡ get_or xs i x → 0 < length (f x) → 0 < length (flat_map f xs)
  some_in [] i x within is some = absurd (omega (arith, within))
  some_in (y ∷ xs) zero x within is some = let e = length-append (f y) (flat_map f xs) in let d = ap (λ z. length (f z)) is in omega (arith, e, d, some)
  some_in (y ∷ xs) (suc i) x within is some = let e = length-append (f y) (flat_map f xs) in let h = some_in xs i x (omega (arith, within)) is some in
      omega (arith, e, h)

  pub none_to : (xs : List X) (i : ℕ) (x : X) → i < length xs → x ≡ get_or xs i x → f x ≡ [] → flat_map f (take i xs) ≡ [] → flat_map f (take (i + 1) xs) ≡ []
  none_to xs i x within is none before =
      ap (flat_map f) (take_more xs i x within) ∙ flat_map-append f (take i xs) (get_or xs i x ∷ []) ∙ ap (λ ys. ys ++ flat_map f (get_or xs i x ∷ [])) before
      ∙ ap (λ z. flat_map f (z ∷ [])) (sym is) ∙ ap (λ ys. ys ++ []) none
