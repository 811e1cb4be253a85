-- Entering expressions one after another: that each may be entered, and the effect of that.
use Rattle.std.proofs.Common.{◌≡◌, ℕ, ◌<◌, ◌≤◌, ◌+◌, List, [], ◌∷◌, length, Result, Ok, Err, inl, inr, refl, sym, ap, arith, length-append}
use Rattle.std.specs.List.{flat_map}
use Rattle.starlark_tree.specs.Ast as t
use Rattle.starlark_lexer.specs.declared.span.Spanned.{Spanned}
use Rattle.starlark_tree.specs.declared.ast.ExprP.{ExprP}
use Rattle.starlark_tree.specs.Inside.{inside}
use Rattle.starlark_tree.specs.Views.{expression_of, payloads}
use Rattle.starlark_tree.specs.Walks.{MayWriteBy, WriteBy, Writing, WritesIn, may_walk, write}
use Rattle.starlark_tree.proofs.InsideLemmas.{below_children}
use Rattle.starlark_uniplate_mut.specs.Types.Entering.{EntersSmaller, EntersTyped}
use Rattle.starlark_uniplate.specs.Types.{TypeExpression, expr_types}
use Rattle.starlark_uniplate_mut.specs.Types.Types.{After, IntoEach, IntoExpr, MayWriteTypes, at_first, children_of, then_call, types_in, untyped}
use Rattle.starlark_uniplate_mut.proofs.TypesLemmas.TypeWalks.{after_expr, into_each, more, types_in_all}
use Rattle.starlark_uniplate_mut.proofs.Writing.{write_at, write_none}

module _ {P : t.Payloads} {F E : Type 0} {calls : Writing F (TypeExpression P) E} where
  pub after_on : {f g h : F} → After calls f g → After calls g h → After calls f h
  after_on a at_first = a
  after_on a (then_call x y b c) = then_call x y (after_on a b) c

  pub may_later : {f g : F} → MayWriteTypes calls f → After calls f g → MayWriteTypes calls g
  may_later p a = record { callable = λ h x b. p.callable h x (after_on a b); no_more = λ h x y k b. p.no_more h x y k (after_on a b) }

  pub typed_later : {others : Writing F (t.Expression P) E} {f g : F} {m n : ℕ} → EntersTyped calls others f n → After calls f g → m ≤ n
      → EntersTyped calls others g m
  typed_later p a least = record { callable = λ h e b some few. p.callable h e (after_on a b) some (omega (arith, few, least)); promises = p.promises }

module _ {P : t.Payloads} {F E : Type 0} (calls : Writing F (TypeExpression P) E) where
  each_type : (g f : F) (xs : List (TypeExpression P)) → MayWriteTypes calls g → After calls g f
      → may_walk calls.may (λ s x u. (y : TypeExpression P) × calls.call s x y (Ok tt) u) f xs
  each_type g f [] p a = tt
  each_type g f (x ∷ xs) p a = (p.callable f x a, λ h c. each_type g h xs p (then_call x c.0 a c.1))

  pub may_types : {f : F} (xs : List (TypeExpression P)) → MayWriteTypes calls f → MayWriteBy calls f xs
  may_types {f} xs p = record { each = each_type f f xs p at_first }

  -- what enters them is itself a walk into one
  module _ (others : Writing F (t.Expression P) E) where
    each_inside : (g : F) (n : ℕ) (f : F) (xs : List (t.Expression P)) → EntersTyped calls others g n → After calls g f → types_in_all xs < n
        → may_walk (λ h e. EntersTyped calls others h (types_in e + 1)) (λ s x u. (y : t.Expression P) × IntoExpr calls s x y (Ok tt) u) f xs
    each_inside g n f [] p a few = tt
    each_inside g n f (x ∷ xs) p a few =
        let parts = more x xs in (
          typed_later p a (omega (arith, parts, few)),
          λ h c. each_inside g n h xs p (after_expr calls c.1 a) (omega (arith, parts, few)),
        )

    pub may_inside : {f : F} (n : ℕ) (xs : List (t.Expression P)) → EntersTyped calls others f n → types_in_all xs < n
        → MayWriteBy (record { may = λ h e. EntersTyped calls others h (types_in e + 1); call = IntoExpr calls }) f xs
    may_inside {f} n xs p few = record { each = each_inside f n f xs p at_first few }

    each_smaller : (g : F) (n size : ℕ) (f : F) (xs : List (t.Expression P)) → EntersSmaller calls others g n size → After calls g f → types_in_all xs < n
        → length (flat_map inside xs) < size
        → may_walk others.may (λ s x u. (y : t.Expression P) × others.call s x y (Ok tt) u) f xs
    each_smaller g n size f [] p a few small = tt
    each_smaller g n size f (x ∷ xs) p a few small =
        let parts = more x xs in
        let sizes = length-append (inside x) (flat_map inside xs) in (
          p.callable f x a (omega (arith, parts, few)) (omega (arith, sizes, small)),
          λ h c. each_smaller g n size h xs p (after_expr calls (p.promises f x c.0 (Ok tt) h c.1) a) (omega (arith, parts, few)) (omega (arith, sizes, small)),
        )

    pub may_smaller : {f : F} (n size : ℕ) (xs : List (t.Expression P)) → EntersSmaller calls others f n size → types_in_all xs < n
        → length (flat_map inside xs) < size → MayWriteBy others f xs
    may_smaller {f} n size xs p few small = record { each = each_smaller f n size f xs p at_first few small }

    through : ((h : F) (e d : t.Expression P) (r : Result (Unit {0}) E) (k : F) → others.call h e d r k → IntoExpr calls h e d r k)
        → (f : F) (xs ys : List (t.Expression P)) (r : Result (Unit {0}) E) (h : F) → write others.call f xs ys r h → write (IntoExpr calls) f xs ys r h
    through same f [] [] r h p = p
    through same f [] (y ∷ ys) r h p = absurd p
    through same f (x ∷ xs) [] r h p = absurd p
    through same f (x ∷ xs) (y ∷ ys) r h (inl p) = inl (p.0, same f x y (Err p.0) h p.1, p.2, p.3)
    through same f (x ∷ xs) (y ∷ ys) r h (inr p) = inr (p.0, same f x y (Ok tt) p.0 p.1, through same p.0 xs ys r h p.2)

    pub into_others : ((h : F) (e d : t.Expression P) (r : Result (Unit {0}) E) (k : F) → others.call h e d r k → IntoExpr calls h e d r k)
        → {f : F} {xs ys : List (t.Expression P)} {r : Result (Unit {0}) E} {h : F} → WriteBy others f xs ys r h → IntoEach calls f xs ys r h
    into_others same {f} {xs} {ys} {r} {h} p = into_each calls (record { calls = through same f xs ys r h p.calls })

  -- an expression that has no types of its own
  pub no_types : {f : F} (x : t.Expression P) → expr_types x ≡ [] → WritesIn expr_types untyped calls f x x (Ok tt) f
  no_types x e = record { calls = write_at (sym e) (sym e) write_none; rest = refl }

  pub children_smaller : (x : t.Expression P) → length (flat_map inside (children_of x)) < length (inside x)
  children_smaller (t.expression s shape) = let e = ap length (below_children shape) in omega (arith, e)

-- trees in memory
module _ {P A B C D T F E : Type 0} (calls : Writing F (TypeExpression (payloads A B C D T)) E) where
  pub seen_written : {f : F} (x y : Spanned (ExprP P A B C D T)) {r : Result (Unit {0}) E} {h : F}
      → WritesIn (λ (e : Spanned (ExprP P A B C D T)). expr_types (expression_of e)) (λ (e : Spanned (ExprP P A B C D T)). untyped (expression_of e)) calls f x
      y r h
      → WritesIn expr_types untyped calls f (expression_of x) (expression_of y) r h
  seen_written x y p = record { calls = p.calls; rest = p.rest }
