-- Statements whose types are changed, and whose expressions are entered.
use Rattle.std.proofs.Common.{◌≡◌, ℕ, List, [], ◌∷◌, ◌++◌, length, map, Option, Result, Ok, Err, IfOk, Box, Global, refl, sym, ap, ◌∙◌}
use Rattle.std.specs.List.{flat_map}
use Rattle.std.specs.Vec.{with_items}
use Rattle.std.proofs.lemmas.List.{length-map}
use Rattle.starlark_lexer.specs.declared.span.Spanned.{Spanned}
use Rattle.starlark_tree.specs.declared.ast.AssignP.{AssignP}
use Rattle.starlark_tree.specs.declared.ast.DefP.{DefP}
use Rattle.starlark_tree.specs.declared.ast.ParameterP.{ParameterP}
use Rattle.starlark_tree.specs.declared.ast.StmtP as stmt
use Rattle.starlark_tree.specs.declared.ast.TypeExprP.{TypeExprP}
use Rattle.starlark_tree.specs.Ast as t
use Rattle.starlark_tree.specs.Children.{own_stmts, stmts_of_stmt}
use Rattle.starlark_tree.specs.Views.{assign_word, boxed_type_of, expression_of, form_seen, maybe_type_of, parameter_of, payloads, statement_of, target_of}
use Rattle.starlark_tree.specs.Walks.{MayWriteBy, WriteBy, Writing, WritesIn, may_walk}
use Rattle.starlark_tree.proofs.LentParts.{with_items_all}
use Rattle.starlark_uniplate.specs.Types.{TypeExpression, form_types, form_types_of, types_in_parameter, types_of}
use Rattle.starlark_uniplate_mut.specs.Types.Types.{After, IntoForm, MayWriteTypes, at_first, form_calls, form_enters, form_stops, untyped_form}
use Rattle.starlark_uniplate_mut.specs.Types.Types.{untyped_form_of}
use Rattle.starlark_uniplate_mut.specs.Types.Types.{untyped_parameter}
use Rattle.starlark_uniplate_mut.specs.Types.IntoCalls.{into_calls}
use Rattle.starlark_uniplate_mut.proofs.TypesLemmas.ParameterTypes.{types_listed, untyped_listed}
use Rattle.starlark_uniplate_mut.proofs.TypesLemmas.TypeWalks.{after_each, after_expr, after_own}
use Rattle.starlark_uniplate_mut.proofs.TypesLemmas.TypeEnters.{may_later}
use Rattle.starlark_uniplate_mut.specs.FormFrames.{stmts_frame, stmts_frame_of}
use Rattle.starlark_uniplate_mut.proofs.Writing.{write_at, write_length}

module _ {Q : t.Payloads} where
  types_stay : (form : t.Form Q) → form_types (stmts_frame form) ≡ form_types form
  types_stay (t.Block ss) = refl
  types_stay form = refl

  abbrev framed : t.Form Q × (List (t.Parameter Q × ℕ) × ℕ) → t.Form Q × (List (t.Parameter Q × ℕ) × ℕ)
  framed u = (stmts_frame u.0, u.1)

  untyped_framed : (form : t.Form Q) → untyped_form (stmts_frame form) ≡ framed (untyped_form form)
  untyped_framed (t.Block ss) = refl
  untyped_framed form = refl

  stmts_in : (form : t.Form Q) → own_stmts (untyped_form form).0 ≡ own_stmts form
  stmts_in (t.Block ss) = refl
  stmts_in form = refl

module _ {P A B C D E : Type 0} where
  -- changing types leaves the statements in the statement unchanged
  pub types_keep : (x y : stmt.StmtP P A B C D E) → untyped_form_of y ≡ untyped_form_of x → stmts_of_stmt y ≡ stmts_of_stmt x
  types_keep x y e =
      sym (stmts_in (form_seen y)) ∙ ap (λ (u : t.Form (payloads A B C D E) × (List (t.Parameter (payloads A B C D E) × ℕ) × ℕ)). own_stmts u.0) e
      ∙ stmts_in (form_seen x)

  pub def_types : (d : DefP P A B C D E) → form_types_of (stmt.Def d) ≡ flat_map (λ (p : Spanned (ParameterP P A B C D E)). types_in_parameter p.node)
      d.params.items ++ types_of (boxed_type_of d.return_type)
  def_types d = ap (λ ys. ys ++ types_of (boxed_type_of d.return_type)) (types_listed d.params.items)

  def_untyped : (d : DefP P A B C D E)
      → untyped_form_of (stmt.Def d)
      ≡ (
        t.Def (assign_word d.name) d.name.node.payload t.no_parameters t.no_type (statement_of d.body.value) d.payload,
        (map (λ (p : Spanned (ParameterP P A B C D E)). untyped_parameter (parameter_of p)) d.params.items, length (types_of (boxed_type_of d.return_type))),
      )
  def_untyped d =
      ap (λ ps. (
        t.Def (assign_word d.name) d.name.node.payload t.no_parameters t.no_type (statement_of d.body.value) d.payload,
        (ps, length (types_of (boxed_type_of d.return_type))),
      )) (untyped_listed d.params.items)

module _ {P A B C D E S R : Type 0} {by : Writing S (TypeExpression (payloads A B C D E)) R} {s u : S} {r : Result (Unit {0}) R} where
  pub own_types : (x y : stmt.StmtP P A B C D E) → WritesIn form_types_of untyped_form_of by s x y r u
      → WritesIn form_types untyped_form by s (stmts_frame_of x) (stmts_frame_of y) r u
  own_types x y p = record {
    calls = write_at (sym (types_stay (form_seen x))) (sym (types_stay (form_seen y))) p.calls;
    rest = untyped_framed (form_seen y) ∙ ap framed p.rest ∙ sym (untyped_framed (form_seen x));
  }

  pub assign_written : (a : AssignP P A B C D E) (ty : Option (Spanned (TypeExprP P A B C D E)))
      → WriteBy by s (types_of (maybe_type_of a.ty)) (types_of (maybe_type_of ty)) r u → WritesIn form_types_of untyped_form_of by s (stmt.Assign a)
      (stmt.Assign (record a { ty = ty })) r u
  assign_written a ty p = record { calls = p; rest = ap (λ n. (t.Assign (target_of a.lhs) t.no_type (expression_of a.rhs), ([], n))) (write_length p) }

  pub def_written : (d : DefP P A B C D E) (xs ws : List (Spanned (ParameterP P A B C D E))) (ty : Option (Box (Spanned (TypeExprP P A B C D E)) Global))
      → xs ≡ d.params.items
      → WriteBy by s (flat_map (λ (p : Spanned (ParameterP P A B C D E)). types_in_parameter p.node) xs ++ types_of (boxed_type_of d.return_type))
      (flat_map (λ (p : Spanned (ParameterP P A B C D E)). types_in_parameter p.node) ws ++ types_of (boxed_type_of ty)) r u
      → map (λ (p : Spanned (ParameterP P A B C D E)). untyped_parameter (parameter_of p)) ws
      ≡ map (λ (p : Spanned (ParameterP P A B C D E)). untyped_parameter (parameter_of p)) xs
      → length (types_of (boxed_type_of ty)) ≡ length (types_of (boxed_type_of d.return_type))
      → WritesIn form_types_of untyped_form_of by s (stmt.Def d) (stmt.Def (record d { params = with_items d.params ws; return_type = ty })) r u
  def_written d xs ws ty same p parameters return_type =
      let new = record d { params = with_items d.params ws; return_type = ty } in
      let many : length ws ≡ length d.params.items =
      sym (length-map ws (λ (p : Spanned (ParameterP P A B C D E)). untyped_parameter (parameter_of p))) ∙ ap length parameters
      ∙ length-map xs (λ (p : Spanned (ParameterP P A B C D E)). untyped_parameter (parameter_of p)) ∙ ap length same in
      let all : (with_items d.params ws).items ≡ ws = with_items_all d.params ws many in
      record {
        calls = write_at
            (ap (λ ps. flat_map (λ (p : Spanned (ParameterP P A B C D E)). types_in_parameter p.node) ps ++ types_of (boxed_type_of d.return_type)) same
            ∙ sym (def_types d))
            (sym (def_types new ∙ ap (λ ps. flat_map (λ (p : Spanned (ParameterP P A B C D E)). types_in_parameter p.node) ps ++ types_of (boxed_type_of ty))
            all))
            p;
        rest =
            def_untyped new
            ∙ ap (λ ps. (
              t.Def (assign_word d.name) d.name.node.payload t.no_parameters t.no_type (statement_of d.body.value) d.payload,
              (map (λ (p : Spanned (ParameterP P A B C D E)). untyped_parameter (parameter_of p)) ps, length (types_of (boxed_type_of ty))),
            )) all
            ∙ ap (λ ps. (
              t.Def (assign_word d.name) d.name.node.payload t.no_parameters t.no_type (statement_of d.body.value) d.payload,
              (ps, length (types_of (boxed_type_of ty))),
            )) (parameters
            ∙ ap (map (λ (p : Spanned (ParameterP P A B C D E)). untyped_parameter (parameter_of p))) same)
            ∙ ap (λ n. (
              t.Def (assign_word d.name) d.name.node.payload t.no_parameters t.no_type (statement_of d.body.value) d.payload,
              (map (λ (p : Spanned (ParameterP P A B C D E)). untyped_parameter (parameter_of p)) d.params.items, n),
            )) return_type
            ∙ sym (def_untyped d);
      }

module _ {P : t.Payloads} {F E : Type 0} (calls : Writing F (TypeExpression P) E) where
  each_expr : (g f : F) (xs : List (t.Expression P)) → MayWriteTypes calls g → After calls g f
      → may_walk (into_calls calls).may (λ s x u. (y : t.Expression P) × (into_calls calls).call s x y (Ok tt) u) f xs
  each_expr g f [] p a = tt
  each_expr g f (x ∷ xs) p a = (may_later p a, λ h c. each_expr g h xs p (after_expr calls c.1 a))

  pub may_exprs : {f : F} (xs : List (t.Expression P)) → MayWriteTypes calls f → MayWriteBy (into_calls calls) f xs
  may_exprs {f} xs p = record { each = each_expr f f xs p at_first }

  -- expressions may be entered after types that were visited
  pub then_exprs : {N Y : Type 0} {places : N → List (TypeExpression P)} {kept : N → Y} {f : F} {x y : N} {r : Result (Unit {0}) E} {h : F}
      (xs : List (t.Expression P)) → WritesIn places kept calls f x y r h → MayWriteTypes calls f → IfOk r (λ done. MayWriteBy (into_calls calls) h xs)
  then_exprs {r = Ok done} xs w p = may_exprs xs (may_later p (after_own calls w at_first))
  then_exprs {r = Err e} xs w p = tt

  form_after : (g f : F) (x y : t.Form P) (r : Result (Unit {0}) E) (h : F) → IntoForm calls f x y r h → r ≡ Ok tt → After calls g f → After calls g h
  form_after g f x y r h (form_stops own) ok a = absurd (cc)
  form_after g f x y r h (form_enters own kept each) ok a = after_each calls each ok (after_own calls own a)

  each_form : (g f : F) (xs : List (t.Form P)) → MayWriteTypes calls g → After calls g f
      → may_walk (form_calls calls).may (λ s x u. (y : t.Form P) × (form_calls calls).call s x y (Ok tt) u) f xs
  each_form g f [] p a = tt
  each_form g f (x ∷ xs) p a = (may_later p a, λ h c. each_form g h xs p (form_after g f x c.0 (Ok tt) h c.1 refl a))

  pub may_forms : {f : F} (xs : List (t.Form P)) → MayWriteTypes calls f → MayWriteBy (form_calls calls) f xs
  may_forms {f} xs p = record { each = each_form f f xs p at_first }
