-- Walks whose calls are walks themselves.
use Rattle.std.proofs.Common.{ℕ, ◌<◌, List, [], ◌∷◌, length, Result, Ok, Err, inl, inr, arith, length-append}
use Rattle.std.specs.List.{flat_map}
use Rattle.starlark_tree.specs.Walks.{MayWalk, Walk, may_walk, walk}
use Rattle.starlark_tree.proofs.Steps.{may_left, may_right, walk_on, walk_stops}

module _ {S X Y E : Type 0} (places : X → List Y) (call : S → Y → Result (Unit {0}) E → S → Type 0) (outer : S → X → Result (Unit {0}) E → S → Type 0)
    (walks : (s : S) (x : X) (r : Result (Unit {0}) E) (t : S) → outer s x r t → Walk call s (places x) r t) where
  through : (s : S) (xs : List X) (r : Result (Unit {0}) E) (t : S) → walk outer s xs r t → Walk call s (flat_map places xs) r t
  through s [] r t p = record { calls = p }
  through s (x ∷ xs) r t (inl p) = rw p.2 (walk_stops (flat_map places xs) (walks s x (Err p.0) t p.1))
  through s (x ∷ xs) r t (inr p) = walk_on (walks s x (Ok tt) p.0 p.1) (through p.0 xs r t p.2)

-- A call of the outer walk may be made if the nodes of its item come in the whole walk, and fewer are in the item than a bound.
module _ {S X Y Z E : Type 0} (places : X → List Y) (inside : X → List Z) (bound : ℕ) (call : S → Y → Result (Unit {0}) E → S → Type 0) (may : S → Y → Type 0)
    (also : S → X → Type 0) (goes : S → X → S → Type 0)
    (asks : (s : S) (x : X) → length (inside x) < bound → MayWalk may (λ s y t. call s y (Ok tt) t) s (places x) → also s x)
    (walks : (s : S) (x : X) (t : S) → goes s x t → Walk call s (places x) (Ok tt) t) where
  may_each : (s : S) (xs : List X) → length (flat_map inside xs) < bound → MayWalk may (λ s y t. call s y (Ok tt) t) s (flat_map places xs)
      → may_walk also goes s xs
  may_each s [] l p = tt
  may_each s (x ∷ xs) l p =
      let e = length-append (inside x) (flat_map inside xs) in (
        asks s x (omega (arith, e, l)) (may_left (places x) (flat_map places xs) p),
        λ t c. may_each t xs (omega (arith, e, l)) (may_right (walks s x t c) (flat_map places xs) p),
      )

module _ {S X Y E : Type 0} {places : X → List Y} {call : S → Y → Result (Unit {0}) E → S → Type 0} {s : S} {xs : List X} where
  pub walk_through : {outer : S → X → Result (Unit {0}) E → S → Type 0} {r : Result (Unit {0}) E} {t : S} → Walk outer s xs r t
      → ((s : S) (x : X) (r : Result (Unit {0}) E) (t : S) → outer s x r t → Walk call s (places x) r t) → Walk call s (flat_map places xs) r t
  walk_through {outer} {r} {t} p walks = through places call outer walks s xs r t p.calls

  pub may_through : {may : S → Y → Type 0} {also : S → X → Type 0} {goes : S → X → S → Type 0} {Z : Type 0} (inside : X → List Z) (bound : ℕ)
      → MayWalk may (λ s y t. call s y (Ok tt) t) s (flat_map places xs) → length (flat_map inside xs) < bound
      → ((s : S) (x : X) → length (inside x) < bound → MayWalk may (λ s y t. call s y (Ok tt) t) s (places x) → also s x)
      → ((s : S) (x : X) (t : S) → goes s x t → Walk call s (places x) (Ok tt) t)
      → MayWalk also goes s xs
  may_through {may} {also} {goes} inside bound p l asks walks = record { each = may_each places inside bound call may also goes asks walks s xs l p }
