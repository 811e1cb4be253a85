-- Types, parameters and lambdas that are mapped, in terms of their parts in memory.
use Rattle.std.proofs.Common.{◌≡◌, Result, Ok, Err, IfOk, Option, Box, Vec, Global, refl}
use Rattle.starlark_lexer.specs.Tokens.{Span as Place, span_of}
use Rattle.starlark_lexer.specs.declared.span.Spanned.{Spanned}
use Rattle.starlark_tree.specs.declared.ast.AssignIdentP.{AssignIdentP}
use Rattle.starlark_tree.specs.declared.ast.ExprP.{ExprP}
use Rattle.starlark_tree.specs.declared.ast.ExprP as e
use Rattle.starlark_tree.specs.declared.ast.LambdaP.{LambdaP}
use Rattle.starlark_tree.specs.declared.ast.ParameterP.{ParameterP}
use Rattle.starlark_tree.specs.declared.ast.ParameterP as parameters
use Rattle.starlark_tree.specs.declared.ast.TypeExprP.{TypeExprP}
use Rattle.starlark_tree.specs.Views.{payloads, assign_word, boxed_type_of, expression_of, maybe_of, parameter_of, parameter_seen, shape_seen}
use Rattle.starlark_tree.proofs.Rows.{maybe_seen_of, maybe_type_seen_of}
use Rattle.starlark_payload.specs.Function.Steps.{Each}
use Rattle.starlark_payload.specs.Function.Mapped.{Calls, MapsExpression, MapsMaybe, MapsMaybeType, MapsParameter, MapsShape}
use Rattle.starlark_payload.proofs.Rows.{lambda_mapped}

-- a value with the span of its source, mapped wherever the two are
pub placed_at : {F S T X Y E : Type 0} (step : S → T → F → F → Type 0) (f : Place → X → S) (g : Place → Y → T) (x : Spanned X) (y : Result Y E)
    (r : Result (Spanned Y) E) (before after : F)
    → IfOk r (λ b. y ≡ Ok b.node) → IfOk r (λ b. b.span ≡ x.span) → IfOk y (λ m. (at : Place) → step (f at x.node) (g at m) before after)
    → IfOk r (λ b. step (f (span_of x.span) x.node) (g (span_of b.span) b.node) before after)
placed_at step f g x y (Ok b) before after node span h =
    let here = rw node at h in
    rw span (here (span_of x.span))
placed_at step f g x y (Err e) before after node span h = tt

module _ {P A B C D E Q G H K L M F : Type 0} (calls : Calls (payloads A B C D E) (payloads G H K L M) F) where
  pub args_mapped : (name : Spanned (AssignIdentP P A B C D E)) (ty : Option (Box (Spanned (TypeExprP P A B C D E)) Global))
      (name' : Spanned (AssignIdentP Q G H K L M)) (ty' : Option (Box (Spanned (TypeExprP Q G H K L M)) Global)) (before between after : F)
      → assign_word name' ≡ assign_word name → calls.assign name.node.payload name'.node.payload before between
      → MapsMaybeType calls (boxed_type_of ty) (boxed_type_of ty') between after
      → (at : Place) → MapsParameter calls (parameter_seen at (parameters.Args name ty)) (parameter_seen at (parameters.Args name' ty')) before after
  args_mapped name ty name' ty' before between after word payload type at = rw (maybe_type_seen_of ty, maybe_type_seen_of ty') (
    (refl, word),
    (between, payload, type),
  )

  pub kwargs_mapped : (name : Spanned (AssignIdentP P A B C D E)) (ty : Option (Box (Spanned (TypeExprP P A B C D E)) Global))
      (name' : Spanned (AssignIdentP Q G H K L M)) (ty' : Option (Box (Spanned (TypeExprP Q G H K L M)) Global)) (before between after : F)
      → assign_word name' ≡ assign_word name → calls.assign name.node.payload name'.node.payload before between
      → MapsMaybeType calls (boxed_type_of ty) (boxed_type_of ty') between after
      → (at : Place) → MapsParameter calls (parameter_seen at (parameters.KwArgs name ty)) (parameter_seen at (parameters.KwArgs name' ty')) before after
  kwargs_mapped name ty name' ty' before between after word payload type at = rw (maybe_type_seen_of ty, maybe_type_seen_of ty') (
    (refl, word),
    (between, payload, type),
  )

  -- a name, its type and its default value, if all were allocated: what is not mapped yet, and what is, was kept meanwhile
  pub normal_made : {N : Type 0} (p : ParameterP P A B C D E) (name : Spanned (AssignIdentP P A B C D E))
      (ty : Option (Box (Spanned (TypeExprP P A B C D E)) Global)) (default default' : Option (Box (Spanned (ExprP P A B C D E)) Global))
      (name' : Spanned (AssignIdentP Q G H K L M)) (t t' : Option (Box (Spanned (TypeExprP Q G H K L M)) Global))
      (d : Option (Box (Spanned (ExprP Q G H K L M)) Global)) (n : Result _ N) (m : Result _ N) (before first second after : F)
      → p ≡ parameters.Normal name ty default → n ≡ Ok t → default' ≡ default → m ≡ Ok d → t' ≡ t
      → assign_word name' ≡ assign_word name → calls.assign name.node.payload name'.node.payload before first
      → IfOk n (λ t. MapsMaybeType calls (boxed_type_of ty) (boxed_type_of t) first second)
      → IfOk m (λ d. MapsMaybe calls (maybe_of default') (maybe_of d) second after)
      → (at : Place) → MapsParameter calls (parameter_seen at p) (parameter_seen at (parameters.Normal name' t' d)) before after
  normal_made p name ty default default' name' t t' d n m before first second after is made default-is made' type-is word payload type value at =
      let type' : MapsMaybeType calls (boxed_type_of ty) (boxed_type_of t) first second = rw made at type in
      let value' : MapsMaybe calls (maybe_of default) (maybe_of d) second after = rw (made', default-is) at value in
      rw (is, type-is) (normal_seen name ty default name' t d before first second after word payload type' value' at)
    where
      normal_seen : (name : Spanned (AssignIdentP P A B C D E)) (ty : Option (Box (Spanned (TypeExprP P A B C D E)) Global))
          (default : Option (Box (Spanned (ExprP P A B C D E)) Global))
          (name' : Spanned (AssignIdentP Q G H K L M)) (ty' : Option (Box (Spanned (TypeExprP Q G H K L M)) Global))
          (default' : Option (Box (Spanned (ExprP Q G H K L M)) Global)) (before first second after : F)
          → assign_word name' ≡ assign_word name → calls.assign name.node.payload name'.node.payload before first
          → MapsMaybeType calls (boxed_type_of ty) (boxed_type_of ty') first second → MapsMaybe calls (maybe_of default) (maybe_of default') second after
          → (at : Place) → MapsParameter calls (parameter_seen at (parameters.Normal name ty default))
          (parameter_seen at (parameters.Normal name' ty' default')) before after
      normal_seen name ty default name' ty' default' before first second after word payload type value at =
          rw (maybe_type_seen_of ty, maybe_type_seen_of ty', maybe_seen_of default, maybe_seen_of default') (
            (refl, word),
            (first, payload, (second, type, value)),
          )

  -- the parameters, the body and the payload of a lambda, if all were allocated: the body and then the parameters were kept meanwhile
  pub lambda_made : {N : Type 0} (x : LambdaP P A B C D E) (ps ps' : Vec (Spanned (ParameterP Q G H K L M)) Global)
      (b' : Box (Spanned (ExprP P A B C D E)) Global) (b : Box (Spanned (ExprP Q G H K L M)) Global) (q : L) (n : Result _ N) (m : Result _ N)
      (before first second after : F)
      → n ≡ Ok ps → b' ≡ x.body → m ≡ Ok b → ps' ≡ ps
      → IfOk n (λ ps. Each (λ x y. MapsParameter calls (parameter_of x) (parameter_of y)) x.params.items ps.items before first)
      → IfOk m (λ b. MapsExpression calls (expression_of b'.value) (expression_of b.value) first second) → calls.def x.payload q second after
      → MapsShape calls (shape_seen (e.Lambda x)) (shape_seen (e.Lambda (record { params = ps'; body = b; payload = q }))) before after
  lambda_made x ps ps' b' b q n m before first second after made body-is made' params-is params body payload =
      let params' : Each (λ x y. MapsParameter calls (parameter_of x) (parameter_of y)) x.params.items ps'.items before first =
      rw params-is (rw made at params) in
      let body' : MapsExpression calls (expression_of x.body.value) (expression_of b.value) first second = rw (made', body-is) at body in
      lambda_mapped calls x (record { params = ps'; body = b; payload = q }) before first second after params' body' payload
