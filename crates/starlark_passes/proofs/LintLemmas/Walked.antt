-- What closures contain after a walk.
use Rattle.std.proofs.Common.{◌≡◌, ◌<◌, ℕ, List, [], ◌∷◌, ◌++◌, length, fold, Result, Ok, Err, OnOk, inl, inr, ap, ◌∙◌, arith, length-append}
use Rattle.std.specs.List.{flat_map}
use Rattle.starlark_lexer.specs.declared.span.Spanned.{Spanned}
use Rattle.starlark_tree.specs.declared.ast.ExprP.{ExprP}
use Rattle.starlark_tree.specs.Inside.{inside}
use Rattle.starlark_tree.specs.Places.{children}
use Rattle.starlark_tree.specs.Views.{expression_of}
use Rattle.starlark_tree.specs.Walks.{MayWalk, Walk, may_walk, walk}
pub use Rattle.starlark_tree.proofs.Callers.{collected, may_always}
use Rattle.starlark_uniplate.proofs.Inside.{expr_inside}

-- fewer are inside the items ys than inside an item that contains itself and them
fewer : {X : Type 0} (inside : X → List X) (x : X) (ys : List X) → inside x ≡ x ∷ flat_map inside ys → (n : ℕ) → length (inside x) ≡ n
    → length (flat_map inside ys) < n
fewer inside x ys e n q = let h = ap length e in omega (arith, h, q)

-- fewer are inside an expression's children than inside the expression
module _ {P A B C D E : Type 0} where
  pub children_fall : (e : Spanned (ExprP P A B C D E)) (n : ℕ) → length (inside (expression_of e)) ≡ n → length (flat_map inside (children e.node)) < n
  children_fall e n q = fewer inside (expression_of e) (children e.node) (expr_inside e) n q

-- each call takes a step from the value before it
module _ {S X E : Type 0} (call : S → X → Result (Unit {0}) E → S → Type 0) where
  folds : {V R : Type 0} (out : S → V) (refers : S → R) (step : V → X → V)
      → ((s : S) (x : X) (t : S) → call s x (Ok tt) t → (out t ≡ step (out s) x) × (refers t ≡ refers s))
      → (s : S) (xs : List X) (t : S) → walk call s xs (Ok tt) t → (out t ≡ fold step (out s) xs) × (refers t ≡ refers s)
  folds out refers step one s [] t p = (ap out p.1, ap refers p.1)
  folds out refers step one s (x ∷ xs) t (inl p) = let e = p.2 in absurd (cc)
  folds out refers step one s (x ∷ xs) t (inr p) =
      let first = one s x p.0 p.1 in
      let rest = folds out refers step one p.0 xs t p.2 in
      (rest.0 ∙ ap (λ v. fold step v xs) first.0, rest.1 ∙ first.1)

module _ {S X E : Type 0} {call : S → X → Result (Unit {0}) E → S → Type 0} where
  pub folded : {s : S} {xs : List X} {t : S} → Walk call s xs (Ok tt) t → {V R : Type 0} (out : S → V) (refers : S → R) (step : V → X → V)
      → ((s : S) (x : X) (t : S) → call s x (Ok tt) t → (out t ≡ step (out s) x) × (refers t ≡ refers s))
      → (out t ≡ fold step (out s) xs) × (refers t ≡ refers s)
  folded {s} {xs} {t} p out refers step one = folds call out refers step one s xs t p.calls

-- a call may be made at each item that contains less than a bound
module _ {S X Y : Type 0} {may : S → X → Type 0} (goes : S → X → S → Type 0) (inside : X → List Y) (bound : ℕ) (asks : (s : S) (x : X)
    → length (inside x) < bound → may s x) where
  each_below : (s : S) (xs : List X) → length (flat_map inside xs) < bound → may_walk may goes s xs
  each_below s [] l = tt
  each_below s (x ∷ xs) l =
      let e = length-append (inside x) (flat_map inside xs) in
      (asks s x (omega (arith, e, l)), λ t c. each_below t xs (omega (arith, e, l)))

  pub may_below : (s : S) (xs : List X) → length (flat_map inside xs) < bound → MayWalk may goes s xs
  may_below s xs l = record { each = each_below s xs l }

-- what was gathered, unless there is an `Err`
module _ {S X E V R : Type 0} {call : S → X → Result (Unit {0}) E → S → Type 0} (out : S → List V) (refers : S → R) (added : X → List V)
    (one : (s : S) (x : X) (t : S) → call s x (Ok tt) t → (out t ≡ out s ++ added x) × (refers t ≡ refers s)) where
  gathers : (s : S) (xs : List X) (r : Result (Unit {0}) E) (t : S) → Walk call s xs r t → OnOk r ((out t ≡ out s ++ flat_map added xs) × (refers t ≡ refers s))
  gathers s xs (Ok v) t p = collected p out refers added one
  gathers s xs (Err e) t p = tt

  pub gathered : {s : S} {xs : List X} {r : Result (Unit {0}) E} {t : S} → Walk call s xs r t
      → OnOk r ((out t ≡ out s ++ flat_map added xs) × (refers t ≡ refers s))
  gathered {s} {xs} {r} {t} p = gathers s xs r t p
