-- What follows from a turn of a walk by a loop, and from two walks one after the other: each lemma takes what a call returned as an equation.
use Rattle.std.proofs.Common.{◌≡◌, ℕ, ◌<◌, ◌≤◌, ◌+◌, List, [], ◌∷◌, ◌++◌, length, get_or, map, Result, Ok, Err, sym, subst}
use Rattle.std.specs.List.{flat_map}
use Rattle.std.specs.Result.{IsErrAnd}
use Rattle.std.proofs.lemmas.List.{take_all}
use Rattle.starlark_tree.specs.Walks.{Calls, Walk, WalkBy}
use Rattle.starlark_tree.proofs.Loops.{item_more, item_stops, place_more, place_stops}
use Rattle.starlark_tree.proofs.Steps.{same_err, walk_on, walk_stops}
use Rattle.starlark_uniplate.proofs.Calls.{CameTo, WalkedTo}

module _ {S X E : Type 0} {call : S → X → Result (Unit {0}) E → S → Type 0} where
  -- the same walk with an equal result
  pub result_at : {s t : S} {xs : List X} {r q : Result (Unit {0}) E} → r ≡ q → Walk call s xs r t → Walk call s xs q t
  result_at {s} {t} {xs} e p = subst (λ (z : Result (Unit {0}) E). Walk call s xs z t) e p

  pub then_on : {s u t : S} {xs ys : List X} {r q : Result (Unit {0}) E} → r ≡ Ok tt → Walk call s xs r u → Walk call u ys q t → Walk call s (xs ++ ys) q t
  then_on e p w = walk_on (result_at e p) w

  pub stops_at : {s t : S} {xs : List X} (ys : List X) {r : Result (Unit {0}) E} {e : E} → r ≡ Err e → Walk call s xs r t → Walk call s (xs ++ ys) (Err e) t
  stops_at ys e p = walk_stops ys (result_at e p)

-- a loop over a list, each item of which has its nodes
module _ {S X E A : Type 0} {calls : Calls S X E} {places : A → List X} {i : ℕ} {s : S} {xs : List A} {u : S} (before : WalkedTo calls places i s xs u) where
  module _ {t : S} {r : Result (Unit {0}) E} (x : A) (within : i < length xs) (is : x ≡ get_or xs i x) where
    pub item_kept : r ≡ Ok tt → WalkBy calls u (places x) r t → WalkedTo calls places (i + 1) s xs t
    item_kept e p = record { walked = item_more places xs i x within is before.walked (result_at e p) }

    pub item_ends : {e : E} {q : Result (Unit {0}) E} → r ≡ Err e → IsErrAnd q (λ y. y ≡ e) → WalkBy calls u (places x) r t
        → WalkBy calls s (flat_map places xs) q t
    item_ends {e} {q} f h p = result_at (sym (same_err q e h)) (item_stops places xs i x within is before.walked (result_at f p))

  pub items_done : length xs ≤ i → WalkBy calls s (flat_map places xs) (Ok tt) u
  items_done h = rw (take_all i xs h) at before.walked

-- the same if each item is a node
module _ {S X E A : Type 0} {calls : Calls S X E} {place : A → X} {i : ℕ} {s : S} {xs : List A} {u : S} (before : CameTo calls place i s xs u) where
  module _ {t : S} {r : Result (Unit {0}) E} (x : A) (within : i < length xs) (is : x ≡ get_or xs i x) where
    pub place_kept : r ≡ Ok tt → WalkBy calls u (place x ∷ []) r t → CameTo calls place (i + 1) s xs t
    place_kept e p = record { walked = place_more place xs i x within is before.walked (result_at e p) }

    pub place_ends : {e : E} {q : Result (Unit {0}) E} → r ≡ Err e → IsErrAnd q (λ y. y ≡ e) → WalkBy calls u (place x ∷ []) r t
        → WalkBy calls s (map place xs) q t
    place_ends {e} {q} f h p = result_at (sym (same_err q e h)) (place_stops place xs i x within is before.walked (result_at f p))

  pub places_done : length xs ≤ i → WalkBy calls s (map place xs) (Ok tt) u
  places_done h = rw (take_all i xs h) at before.walked
