-- The lemmas of the walks in a form in which search uses them: each conclusion begins with the fact that it is drawn from.
use Rattle.std.proofs.Common.{◌≡◌, ℕ, ◌<◌, ◌≤◌, ◌+◌, List, [], ◌∷◌, ◌++◌, length, take, get_or, map, Result, Ok, Err, inl, inr}
use Rattle.std.specs.Fn.{Mut}
use Rattle.std.specs.List.{flat_map}
use Rattle.std.specs.declared.convert.Infallible.{Infallible}
use Rattle.std.proofs.lemmas.List.{take_all, get_or_default}
use Rattle.starlark_tree.specs.Walks.{Calls, MayWalkBy, Visits, Walk, WalkBy, MayWalk, may_walk, visits, walk}
use Rattle.starlark_tree.proofs.Loops as loops
use Rattle.starlark_tree.proofs.Nodes.{anywhere, slice_children, parameters_in}
use Rattle.starlark_tree.proofs.Steps as steps
use Rattle.starlark_uniplate.specs.Visited.{CallsOn}

module _ {F A X : Type 0} (seen : A → X) (g : Mut F (A × Unit {0}) (Unit {0})) where
  all_on : (f : F) (xs : List X) (f' : F) → walk {E = Infallible} (CallsOn seen g) f xs (Ok tt) f' → visits seen g f xs f'
  all_on f [] f' p = p.1
  all_on f (x ∷ xs) f' (inl p) = let e = p.2 in absurd (cc)
  all_on f (x ∷ xs) f' (inr p) = (p.0, p.1, all_on p.0 xs f' p.2)

module _ {F A X : Type 0} {seen : A → X} {g : Mut F (A × Unit {0}) (Unit {0})} {f : F} {xs : List X} {f' : F} where
  -- a closure that cannot fail was called at all nodes
  pub went : Walk {E = Infallible} (CallsOn seen g) f xs (Ok tt) f' → Visits seen g f xs f'
  went p = record { calls = all_on seen g f xs f' p.calls }

-- two walks, one after the other
module _ {S X E : Type 0} (calls : Calls S X E) {s : S} (xs : List X) where
  pub before : (ys : List X) → MayWalkBy calls s (xs ++ ys) → MayWalkBy calls s (xs ++ ys) × may_walk calls.may (λ s x t. calls.call s x (Ok tt) t) s xs
  before ys p = (p, (steps.may_left xs ys p).each)

  pub next : (y : X) (ys : List X) → MayWalkBy calls s (xs ++ y ∷ ys)
      → MayWalkBy calls s (xs ++ y ∷ ys) × ((r : Result (Unit {0}) E) (u : S) → r ≡ Ok tt → WalkBy calls s xs r u → calls.may u y)
  next y ys p = (p, λ r u e q. let w : WalkBy calls s xs (Ok tt) u = rw e at q in (steps.may_right w (y ∷ ys) p).each.0)

module _ {S X E : Type 0} {call : S → X → Result (Unit {0}) E → S → Type 0} {s u : S} {xs : List X} where
  pub after : {r : Result (Unit {0}) E} → r ≡ Ok tt → Walk call s xs r u
      → Walk call s xs r u
      × ((may : S → X → Type 0) (ys : List X) → MayWalk may (λ s x t. call s x (Ok tt) t) s (xs ++ ys) → may_walk may (λ s x t. call s x (Ok tt) t) u ys)
      × ((ys : List X) (q : Result (Unit {0}) E) (t : S) → Walk call u ys q t → Walk call s (xs ++ ys) q t)
  after e p = let q : Walk call s xs (Ok tt) u = rw e at p in (p, (λ may ys m. (steps.may_right q ys m).each), λ ys r t w. steps.walk_on q w)

  pub stops : {e : E} → Walk call s xs (Err e) u → Walk call s xs (Err e) u × ((ys : List X) → Walk call s (xs ++ ys) (Err e) u)
  stops p = (p, λ ys. steps.walk_stops ys p)

pub ruleset parts = (before, next, after, stops, anywhere)

-- The same, all from what may be walked at first: its list determines where the second walk begins.
module _ {S X E : Type 0} (calls : Calls S X E) {s : S} (xs ys : List X) where
  pub in_turn : MayWalkBy calls s (xs ++ ys)
      → MayWalkBy calls s (xs ++ ys)
      × may_walk calls.may (λ s x t. calls.call s x (Ok tt) t) s xs
      × ((r : Result (Unit {0}) E) (u : S) → r ≡ Ok tt → WalkBy calls s xs r u → MayWalkBy calls u ys)
      × ((r : Result (Unit {0}) E) (u : S) (q : Result (Unit {0}) E) (t : S) → r ≡ Ok tt → WalkBy calls s xs r u → WalkBy calls u ys q t
      → WalkBy calls s (xs ++ ys) q t)
      × ((e : E) (t : S) → WalkBy calls s xs (Err e) t → WalkBy calls s (xs ++ ys) (Err e) t)
  in_turn p = (
    p,
    (steps.may_left xs ys p).each,
    (λ r u e q. let w : WalkBy calls s xs (Ok tt) u = rw e at q in steps.may_right w ys p),
    (λ r u o t e q w. let v : WalkBy calls s xs (Ok tt) u = rw e at q in steps.walk_on v w),
    (λ e t q. steps.walk_stops ys q),
  )

-- a walk by a loop over a list, at an item
module _ {S X E A : Type 0} (calls : Calls S X E) (places : A → List X) where
  pub record WalkedTo (i : ℕ) (s : S) (xs : List A) (u : S) : Type 0 where
    pub walked : WalkBy calls s (flat_map places (take i xs)) (Ok tt) u

module _ {S X E A : Type 0} {calls : Calls S X E} {places : A → List X} {i : ℕ} {s : S} {xs : List A} {u : S} where
  pub at_item : WalkedTo calls places i s xs u → i < length xs
      → WalkedTo calls places i s xs u
      × ((d : A) → MayWalkBy calls s (flat_map places xs) → may_walk calls.may (λ s x t. calls.call s x (Ok tt) t) u (places (get_or xs i d)))
      × ((d : A) (r : Result (Unit {0}) E) (t : S) → r ≡ Ok tt → WalkBy calls u (places (get_or xs i d)) r t → WalkedTo calls places (i + 1) s xs t)
      × ((d : A) (e : E) (t : S) → WalkBy calls u (places (get_or xs i d)) (Err e) t → WalkBy calls s (flat_map places xs) (Err e) t)
  at_item w h = (
    w,
    (λ d m. (loops.may_item places xs i (get_or xs i d) h (get_or_default xs i d (get_or xs i d) h) w.walked m).each),
    (λ d r t e p. record { walked = loops.item_more places xs i (get_or xs i d) h (get_or_default xs i d (get_or xs i d) h) w.walked (rw e at p) }),
    (λ d e t p. loops.item_stops places xs i (get_or xs i d) h (get_or_default xs i d (get_or xs i d) h) w.walked p),
  )

  pub all_items : WalkedTo calls places i s xs u → length xs ≤ i → WalkedTo calls places i s xs u × WalkBy calls s (flat_map places xs) (Ok tt) u
  all_items w h = (w, rw (take_all i xs h) at w.walked)

pub ruleset items = (at_item, all_items)

-- the same if each item is a node
module _ {S X E A : Type 0} (calls : Calls S X E) (place : A → X) where
  pub record CameTo (i : ℕ) (s : S) (xs : List A) (u : S) : Type 0 where
    pub walked : WalkBy calls s (map place (take i xs)) (Ok tt) u

module _ {S X E A : Type 0} {calls : Calls S X E} {place : A → X} {i : ℕ} {s : S} {xs : List A} {u : S} where
  pub at_place : CameTo calls place i s xs u → i < length xs
      → CameTo calls place i s xs u
      × ((d : A) → MayWalkBy calls s (map place xs) → calls.may u (place (get_or xs i d)))
      × ((d : A) (t : S) → calls.call u (place (get_or xs i d)) (Ok tt) t → CameTo calls place (i + 1) s xs t)
      × ((d : A) (e : E) (t : S) → calls.call u (place (get_or xs i d)) (Err e) t → WalkBy calls s (map place xs) (Err e) t)
  at_place w h = (
    w,
    (λ d m. (loops.may_place place xs i (get_or xs i d) h (get_or_default xs i d (get_or xs i d) h) w.walked m).each.0),
    (λ d t p. record { walked = loops.place_more place xs i (get_or xs i d) h (get_or_default xs i d (get_or xs i d) h) w.walked (steps.walk_one p) }),
    (λ d e t p. loops.place_stops place xs i (get_or xs i d) h (get_or_default xs i d (get_or xs i d) h) w.walked (steps.walk_one p)),
  )

  pub all_places : CameTo calls place i s xs u → length xs ≤ i → CameTo calls place i s xs u × WalkBy calls s (map place xs) (Ok tt) u
  all_places w h = (w, rw (take_all i xs h) at w.walked)

pub ruleset spots = (at_place, all_places)

pub ruleset nodes = (before, next, after, stops, slice_children)

pub ruleset forms = (anywhere, parameters_in)
