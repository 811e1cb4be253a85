-- Mutable walks over type expressions: into one expression after another, and how many types are left.
use Rattle.std.proofs.Common.{◌≡◌, ℕ, ◌≤◌, ◌+◌, List, [], ◌∷◌, ◌++◌, length, Result, Ok, inl, inr, refl, sym, ap, ◌∙◌, subst, arith, length-append}
use Rattle.std.specs.List.{flat_map}
use Rattle.std.proofs.lemmas.List.Concat.{flat_map-append}
use Rattle.starlark_tree.specs.Ast as t
use Rattle.starlark_tree.specs.Inside.{below, inside}
use Rattle.starlark_tree.specs.Places.{maybe_exprs, parameter_exprs, parameters_exprs}
use Rattle.starlark_tree.specs.Walks.{Write, Writing, WritesIn, write}
use Rattle.starlark_tree.proofs.InsideLemmas.{below_children}
use Rattle.starlark_uniplate.specs.Types.{TypeExpression, expr_types, parameter_types, parameters_types}
use Rattle.starlark_uniplate_mut.specs.Types.Types.{After, IntoEach, IntoExpr, MayWriteTypes, children_of, enters, goes_on, none, own_parameters, stops}
use Rattle.starlark_uniplate_mut.specs.Types.Types.{stops_at}
use Rattle.starlark_uniplate_mut.specs.Types.Types.{then_call, types_in, untyped, untyped_parameter, untyped_parameters, without_parameters}

module _ {P : t.Payloads} {F E : Type 0} (calls : Writing F (TypeExpression P) E) where
  each_into : (f : F) (xs ys : List (t.Expression P)) (r : Result (Unit {0}) E) (h : F) → write (IntoExpr calls) f xs ys r h → IntoEach calls f xs ys r h
  each_into f [] [] r h p = rw (p.0, p.1) none
  each_into f [] (y ∷ ys) r h p = absurd p
  each_into f (x ∷ xs) [] r h p = absurd p
  each_into f (x ∷ xs) (y ∷ ys) r h (inl p) = rw (p.2, p.3) (stops_at xs p.1)
  each_into f (x ∷ xs) (y ∷ ys) r h (inr p) = goes_on p.1 (each_into p.0 xs ys r h p.2)

  pub into_each : {f : F} {xs ys : List (t.Expression P)} {r : Result (Unit {0}) E} {h : F} → Write (IntoExpr calls) f xs ys r h → IntoEach calls f xs ys r h
  into_each {f} {xs} {ys} {r} {h} p = each_into f xs ys r h p.calls

  -- the states after a walk are states after calls
  calls_after : (g f : F) (xs ys : List (TypeExpression P)) (h : F) → write calls.call f xs ys (Ok tt) h → After calls g f → After calls g h
  calls_after g f [] [] h p a = subst (After calls g) (sym p.1) a
  calls_after g f [] (y ∷ ys) h p a = absurd p
  calls_after g f (x ∷ xs) [] h p a = absurd p
  calls_after g f (x ∷ xs) (y ∷ ys) h (inl p) a = let e = p.2 in absurd (cc)
  calls_after g f (x ∷ xs) (y ∷ ys) h (inr p) a = calls_after g p.0 xs ys h p.2 (then_call x y a p.1)

  mutual
    expr_after : (g f : F) (x y : t.Expression P) (r : Result (Unit {0}) E) (h : F) → IntoExpr calls f x y r h → r ≡ Ok tt → After calls g f → After calls g h
    expr_after g f x y r h (stops own) ok a = absurd (cc)
    expr_after g f x y r h (enters {m = m} {u = u} own kept each) ok a = each_after g u (children_of m) (children_of y) r h each ok
        (calls_after g f (expr_types x) (expr_types m) u own.calls.calls a)

    each_after : (g f : F) (xs ys : List (t.Expression P)) (r : Result (Unit {0}) E) (h : F) → IntoEach calls f xs ys r h → r ≡ Ok tt → After calls g f
        → After calls g h
    each_after g f xs ys r h none ok a = a
    each_after g f xs ys r h (stops_at rest p) ok a = absurd (cc)
    each_after g f xs ys r h (goes_on {x = x} {y = y} {u = u} {xs = rest} {ys = others} p q) ok a =
        each_after g u rest others r h q ok (expr_after g f x y (Ok tt) u p refl a)

  pub after_expr : {g f : F} {x y : t.Expression P} {h : F} → IntoExpr calls f x y (Ok tt) h → After calls g f → After calls g h
  after_expr {g} {f} {x} {y} {h} p a = expr_after g f x y (Ok tt) h p refl a

  pub after_each : {g f : F} {xs ys : List (t.Expression P)} {r : Result (Unit {0}) E} {h : F} → IntoEach calls f xs ys r h → r ≡ Ok tt → After calls g f
      → After calls g h
  after_each {g} {f} {xs} {ys} {r} {h} p ok a = each_after g f xs ys r h p ok a

  -- nodes that are changed
  pub after_own : {N Y : Type 0} {places : N → List (TypeExpression P)} {kept : N → Y} {g f : F} {x y : N} {h : F} → WritesIn places kept calls f x y (Ok tt) h
      → After calls g f → After calls g h
  after_own {places = places} {g = g} {f = f} {x = x} {y = y} {h = h} p a = calls_after g f (places x) (places y) h p.calls.calls a

  pub after_types : {g f : F} {x y : t.Expression P} {h : F} → WritesIn expr_types untyped calls f x y (Ok tt) h → After calls g f → After calls g h
  after_types {g} {f} {x} {y} {h} p a = calls_after g f (expr_types x) (expr_types y) h p.calls.calls a

-- how many types are in expressions
module _ {P : t.Payloads} where
  abbrev pub types_in_all : List (t.Expression P) → ℕ
  types_in_all es = length (flat_map expr_types (flat_map inside es))

  abbrev in_types : List (TypeExpression P) → ℕ
  in_types [] = 0
  in_types (x ∷ xs) = types_in x.expr + in_types xs

  pub more : (x : t.Expression P) (xs : List (t.Expression P)) → types_in_all (x ∷ xs) ≡ types_in x + types_in_all xs
  more x xs = ap length (flat_map-append expr_types (inside x) (flat_map inside xs)) ∙ length-append (flat_map expr_types (inside x))
      (flat_map expr_types (flat_map inside xs))

  both : (xs ys : List (t.Expression P)) → types_in_all (xs ++ ys) ≡ types_in_all xs + types_in_all ys
  both [] ys = omega arith
  both (x ∷ xs) ys = let e = more x (xs ++ ys) in let d = more x xs in let h = both xs ys in omega (arith, e, d, h)

  joined : (xs ys : List (TypeExpression P)) → in_types (xs ++ ys) ≡ in_types xs + in_types ys
  joined [] ys = omega arith
  joined (x ∷ xs) ys = let h = joined xs ys in omega (arith, h)

  abbrev in_defaults : List (t.Parameter P × ℕ) → ℕ
  in_defaults [] = 0
  in_defaults (x ∷ xs) = types_in_all (parameter_exprs x.0) + in_defaults xs

  in_parameter : (p : t.Parameter P) → types_in_all (parameter_exprs p) ≡ in_types (parameter_types p) + types_in_all (parameter_exprs (untyped_parameter p).0)
  in_parameter (t.Slash s) = refl
  in_parameter (t.Normal s w p t.no_type default) = omega arith
  in_parameter (t.Normal s w p (t.typed r e q) default) = let h = more e (maybe_exprs default) in omega (arith, h)
  in_parameter (t.NoArgs s) = refl
  in_parameter (t.Args s w p t.no_type) = refl
  in_parameter (t.Args s w p (t.typed r e q)) = let h = more e [] in omega (arith, h)
  in_parameter (t.KwArgs s w p t.no_type) = refl
  in_parameter (t.KwArgs s w p (t.typed r e q)) = let h = more e [] in omega (arith, h)

  in_parameters : (ps : t.Parameters P) → types_in_all (parameters_exprs ps) ≡ in_types (parameters_types ps) + in_defaults (untyped_parameters ps)
  in_parameters t.no_parameters = refl
  in_parameters (t.parameters p ps) =
      let one = in_parameter p in
      let all = in_parameters ps in
      let apart = both (parameter_exprs p) (parameters_exprs ps) in
      let types = joined (parameter_types p) (parameters_types ps) in
      omega (arith, one, all, apart, types)

  -- some types are an expression's own, and the others are in the rest of it
  in_parts : (x : t.Expression P) → types_in_all (children_of x) ≡ in_types (expr_types x) +
      (in_defaults (untyped_parameters (own_parameters x)) + types_in_all (children_of (without_parameters x)))
  in_parts (t.expression s (t.Lambda ps e p)) = let a = both (parameters_exprs ps) (e ∷ []) in let b = in_parameters ps in omega (arith, a, b)
  in_parts (t.expression s other) = omega arith

  pub types_parted : (x : t.Expression P) → types_in x ≡ length (expr_types x) + types_in_all (children_of x)
  types_parted (t.expression s shape) =
      length-append (expr_types (t.expression s shape)) (flat_map expr_types (below shape))
      ∙ ap (λ es. length (expr_types (t.expression s shape)) + length (flat_map expr_types es)) (below_children shape)

module _ {P : t.Payloads} {F E : Type 0} (calls : Writing F (TypeExpression P) E) (g : F) (may : MayWriteTypes calls g) where
  none_more : (f : F) (xs ys : List (TypeExpression P)) (h : F) → write calls.call f xs ys (Ok tt) h → After calls g f → in_types ys ≤ in_types xs
  none_more f [] [] h p a = omega arith
  none_more f [] (y ∷ ys) h p a = absurd p
  none_more f (x ∷ xs) [] h p a = absurd p
  none_more f (x ∷ xs) (y ∷ ys) h (inl p) a = let e = p.2 in absurd (cc)
  none_more f (x ∷ xs) (y ∷ ys) h (inr p) a =
      let here = may.no_more f x y p.0 a p.1 in
      let rest = none_more p.0 xs ys h p.2 (then_call x y a p.1) in
      omega (arith, here, rest)

  pub no_more_left : {f : F} (x y : t.Expression P) {h : F} → WritesIn expr_types untyped calls f x y (Ok tt) h → After calls g f
      → types_in_all (children_of y) ≤ types_in_all (children_of x)
  no_more_left {f} x y {h} p a =
      let old = in_parts x in
      let new = in_parts y in
      let fewer = none_more f (expr_types x) (expr_types y) h p.calls.calls a in
      let same = ap (λ (u : t.Expression P × List (t.Parameter P × ℕ)). in_defaults u.1 + types_in_all (children_of u.0)) p.rest in
      omega (arith, old, new, fewer, same)
