-- Walks one after another.
use Rattle.std.proofs.Common.{◌≡◌, List, [], ◌∷◌, ◌++◌, Result, Ok, Err, inl, inr, refl, sym, ap, subst}
use Rattle.std.specs.Result.{IsErrAnd}
use Rattle.starlark_tree.specs.Walks.{MayWalk, Walk, may_walk, walk}

module _ {S X : Type 0} (may : S → X → Type 0) (goes : S → X → S → Type 0) where
  left : (s : S) (xs ys : List X) → may_walk may goes s (xs ++ ys) → may_walk may goes s xs
  left s [] ys p = tt
  left s (x ∷ xs) ys p = (p.0, λ u c. left u xs ys (p.1 u c))

module _ {S X E : Type 0} (may : S → X → Type 0) (call : S → X → Result (Unit {0}) E → S → Type 0) where
  right : (s : S) (xs : List X) (u : S) (ys : List X) → may_walk may (λ s x t. call s x (Ok tt) t) s (xs ++ ys) → walk call s xs (Ok tt) u
      → may_walk may (λ s x t. call s x (Ok tt) t) u ys
  right s [] u ys p q = subst (λ (z : S). may_walk may (λ s x t. call s x (Ok tt) t) z ys) (sym q.1) p
  right s (x ∷ xs) u ys p (inl q) = let e = q.2 in absurd (cc)
  right s (x ∷ xs) u ys p (inr q) = right q.0 xs u ys (p.1 q.0 q.1) q.2

module _ {S X E : Type 0} (call : S → X → Result (Unit {0}) E → S → Type 0) where
  append : (s : S) (xs : List X) (u : S) (ys : List X) (r : Result (Unit {0}) E) (t : S) → walk call s xs (Ok tt) u → walk call u ys r t
      → walk call s (xs ++ ys) r t
  append s [] u ys r t p q = subst (λ (z : S). walk call z ys r t) p.1 q
  append s (x ∷ xs) u ys r t (inl p) q = let e = p.2 in absurd (cc)
  append s (x ∷ xs) u ys r t (inr p) q = inr (p.0, p.1, append p.0 xs u ys r t p.2 q)

  stops : (s : S) (xs : List X) (ys : List X) (e : E) (t : S) → walk call s xs (Err e) t → walk call s (xs ++ ys) (Err e) t
  stops s [] ys e t p = let q = p.0 in absurd (cc)
  stops s (x ∷ xs) ys e t (inl p) = inl p
  stops s (x ∷ xs) ys e t (inr p) = inr (p.0, p.1, stops p.0 xs ys e t p.2)

  one : (s : S) (x : X) (r : Result (Unit {0}) E) (t : S) → call s x r t → walk call s (x ∷ []) r t
  one s x (Ok tt) t p = inr (t, p, (refl, refl))
  one s x (Err e) t p = inl (e, p, refl)

module _ {S X : Type 0} {may : S → X → Type 0} {goes : S → X → S → Type 0} {s : S} where
  pub may_left : (xs ys : List X) → MayWalk may goes s (xs ++ ys) → MayWalk may goes s xs
  may_left xs ys p = record { each = left may goes s xs ys p.each }

  pub may_first : {x : X} {xs : List X} → MayWalk may goes s (x ∷ xs) → may s x
  may_first p = p.each.0

module _ {S X E : Type 0} {may : S → X → Type 0} {call : S → X → Result (Unit {0}) E → S → Type 0} {s u : S} {xs : List X} where
  pub may_right : Walk call s xs (Ok tt) u → (ys : List X) → MayWalk may (λ s x t. call s x (Ok tt) t) s (xs ++ ys)
      → MayWalk may (λ s x t. call s x (Ok tt) t) u ys
  may_right q ys p = record { each = right may call s xs u ys p.each q.calls }

module _ {S X E : Type 0} {call : S → X → Result (Unit {0}) E → S → Type 0} where
  pub walk_one : {s : S} {x : X} {r : Result (Unit {0}) E} {t : S} → call s x r t → Walk call s (x ∷ []) r t
  walk_one {s} {x} {r} {t} p = record { calls = one call s x r t p }

  pub walk_on : {s u : S} {xs ys : List X} {r : Result (Unit {0}) E} {t : S} → Walk call s xs (Ok tt) u → Walk call u ys r t → Walk call s (xs ++ ys) r t
  walk_on {s} {u} {xs} {ys} {r} {t} p q = record { calls = append call s xs u ys r t p.calls q.calls }

  pub walk_stops : {s : S} {xs : List X} (ys : List X) {e : E} {t : S} → Walk call s xs (Err e) t → Walk call s (xs ++ ys) (Err e) t
  walk_stops {s} {xs} ys {e} {t} p = record { calls = stops call s xs ys e t p.calls }

-- what `?` returns
pub same_err : {V E : Type 0} (r : Result V E) (e : E) → IsErrAnd r (λ y. y ≡ e) → r ≡ Err e
same_err (Ok v) e h = absurd h
same_err (Err y) e h = ap Err h
