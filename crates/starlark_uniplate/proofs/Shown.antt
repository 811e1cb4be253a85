-- Walks over nodes each of which is seen as something else.
use Rattle.std.proofs.Common.{◌≡◌, List, [], ◌∷◌, ◌++◌, Result, Ok, Err, inl, inr, map}
use Rattle.starlark_tree.specs.Walks.{Calls, MayWalk, MayWalkBy, Walk, may_walk, walk}
use Rattle.starlark_tree.proofs.Steps as steps
use Rattle.starlark_uniplate.specs.Shown.{OnShown}

module _ {S X Y E : Type 0} (show : X → Y) (call : S → Y → Result (Unit {0}) E → S → Type 0) where
  shown : (s : S) (xs : List X) (r : Result (Unit {0}) E) (t : S) → walk (OnShown show call) s xs r t → walk call s (map show xs) r t
  shown s [] r t p = p
  shown s (x ∷ xs) r t (inl p) = inl (p.0, p.1.called, p.2)
  shown s (x ∷ xs) r t (inr p) = inr (p.0, p.1.called, shown p.0 xs r t p.2)

  may_each : (may : S → Y → Type 0) (s : S) (xs : List X) → may_walk may (λ s x t. call s x (Ok tt) t) s (map show xs)
      → may_walk (λ s x. may s (show x)) (λ s x t. OnShown show call s x (Ok tt) t) s xs
  may_each may s [] p = tt
  may_each may s (x ∷ xs) p = (p.0, λ t c. may_each may t xs (p.1 t c.called))

module _ {S X Y E : Type 0} (show : X → Y) {call : S → Y → Result (Unit {0}) E → S → Type 0} where
  pub walk_shown : {s : S} {xs : List X} {r : Result (Unit {0}) E} {t : S} → Walk (OnShown show call) s xs r t → Walk call s (map show xs) r t
  walk_shown {s} {xs} {r} {t} p = record { calls = shown show call s xs r t p.calls }

module _ {S X Y E : Type 0} (show : X → Y) (call : S → Y → Result (Unit {0}) E → S → Type 0) {may : S → Y → Type 0} where
  pub may_shown : {s : S} {xs : List X} → MayWalk may (λ s x t. call s x (Ok tt) t) s (map show xs)
      → MayWalk (λ s x. may s (show x)) (λ s x t. OnShown show call s x (Ok tt) t) s xs
  may_shown {s} {xs} p = record { each = may_each show call may s xs p.each }

-- A walk over two lists, each seen in its way.
module _ {S X Y E : Type 0} (calls : Calls S Y E) (s : S) (show : X → Y) (xs : List X) where
  pub first : (ys : List Y) → MayWalkBy calls s (map show xs ++ ys)
      → MayWalkBy calls s (map show xs ++ ys) × may_walk (λ s x. calls.may s (show x)) (λ s x t. OnShown show calls.call s x (Ok tt) t) s xs
  first ys p = (p, may_each show calls.call calls.may s xs (steps.may_left (map show xs) ys p).each)

  pub alone : MayWalkBy calls s (map show xs)
      → MayWalkBy calls s (map show xs) × may_walk (λ s x. calls.may s (show x)) (λ s x t. OnShown show calls.call s x (Ok tt) t) s xs
  alone p = (p, may_each show calls.call calls.may s xs p.each)

  pub later : (r : Result (Unit {0}) E) (u : S) → r ≡ Ok tt → Walk (OnShown show calls.call) s xs r u
      → Walk (OnShown show calls.call) s xs r u
      × ((Z : Type 0) (also : Z → Y) (ys : List Z) → MayWalkBy calls s (map show xs ++ map also ys) → may_walk (λ s x. calls.may s (also x))
      (λ s x t. OnShown also calls.call s x (Ok tt) t) u ys)
      × ((y : Y) → MayWalkBy calls s (map show xs ++ y ∷ []) → calls.may u y)
  later r u e p = let q : Walk (OnShown show calls.call) s xs (Ok tt) u = rw e at p in (
    p,
    (λ Z also ys m. may_each also calls.call calls.may u ys (steps.may_right (walk_shown show q) (map also ys) m).each),
    (λ y m. (steps.may_right (walk_shown show q) (y ∷ []) m).each.0),
  )

-- both walks as one
module _ {S X Y E : Type 0} {call : S → Y → Result (Unit {0}) E → S → Type 0} {s u : S} {show : X → Y} {xs : List X} where
  pub shown_on : {r : Result (Unit {0}) E} → r ≡ Ok tt → Walk (OnShown show call) s xs r u
      → Walk (OnShown show call) s xs r u
      × ((Z : Type 0) (also : Z → Y) (ys : List Z) (q : Result (Unit {0}) E) (t : S) → Walk (OnShown also call) u ys q t
      → Walk call s (map show xs ++ map also ys) q t)
  shown_on e p = let q : Walk (OnShown show call) s xs (Ok tt) u = rw e at p in (p, λ Z also ys q2 t w. steps.walk_on (walk_shown show q) (walk_shown also w))

  pub shown_stops : {e : E} → Walk (OnShown show call) s xs (Err e) u → Walk (OnShown show call) s xs (Err e) u
      × ((ys : List Y) → Walk call s (map show xs ++ ys) (Err e) u)
  shown_stops p = (p, λ ys. steps.walk_stops ys (walk_shown show p))

  pub shown_whole : {r : Result (Unit {0}) E} → Walk (OnShown show call) s xs r u → Walk (OnShown show call) s xs r u × Walk call s (map show xs) r u
  shown_whole p = (p, walk_shown show p)

pub ruleset shows = (first, alone, later, shown_on, shown_stops, shown_whole)
