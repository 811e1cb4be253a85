-- Mutable walks each call of which is itself such a walk.
use Rattle.std.proofs.Common.{◌≡◌, ℕ, ◌<◌, ◌+◌, List, [], ◌∷◌, map, Result, Ok, Err, inl, inr, refl, arith}
use Rattle.std.specs.List.{flat_map}
use Rattle.starlark_tree.specs.Walks.{MayWalk, Write, may_walk, write}
use Rattle.starlark_tree.proofs.Steps.{may_left}
use Rattle.starlark_uniplate_mut.proofs.Writing.{may_after, write_on, write_stops}

abbrev pub total : {X : Type 0} → (X → ℕ) → List X → ℕ
total size [] = 0
total size (x ∷ xs) = size x + total size xs

module _ {S X Y E : Type 0} (places : X → List Y) (call : S → Y → Y → Result (Unit {0}) E → S → Type 0) (outer : S → X → X → Result (Unit {0}) E → S → Type 0)
    (walks : (s : S) (x y : X) (r : Result (Unit {0}) E) (t : S) → outer s x y r t → Write call s (places x) (places y) r t) where
  through : (s : S) (xs ys : List X) (r : Result (Unit {0}) E) (t : S) → write outer s xs ys r t → Write call s (flat_map places xs) (flat_map places ys) r t
  through s [] [] r t p = record { calls = p }
  through s [] (y ∷ ys) r t p = absurd p
  through s (x ∷ xs) [] r t p = absurd p
  through s (x ∷ xs) (y ∷ ys) r t (inl p) = rw (p.2, p.3) (write_stops (flat_map places xs) (walks s x y (Err p.0) t p.1))
  through s (x ∷ xs) (y ∷ ys) r t (inr p) = write_on (walks s x y (Ok tt) p.0 p.1) (through p.0 xs ys r t p.2)

-- what each call keeps of its item
module _ {S X Y E : Type 0} (kept : X → Y) (outer : S → X → X → Result (Unit {0}) E → S → Type 0)
    (keeps : (s : S) (x y : X) (r : Result (Unit {0}) E) (t : S) → outer s x y r t → kept y ≡ kept x) where
  all_kept : (s : S) (xs ys : List X) (r : Result (Unit {0}) E) (t : S) → write outer s xs ys r t → map kept ys ≡ map kept xs
  all_kept s [] [] r t p = refl
  all_kept s [] (y ∷ ys) r t p = absurd p
  all_kept s (x ∷ xs) [] r t p = absurd p
  all_kept s (x ∷ xs) (y ∷ ys) r t (inl p) = rw (p.3, keeps s x y (Err p.0) t p.1) refl
  all_kept s (x ∷ xs) (y ∷ ys) r t (inr p) = rw (keeps s x y (Ok tt) p.0 p.1, all_kept p.0 xs ys r t p.2) refl

-- A call of the outer walk may be made if the nodes of its item come in the whole walk, and the item is smaller than a bound.
module _ {S X Y E : Type 0} (places : X → List Y) (size : X → ℕ) (bound : ℕ) (call : S → Y → Y → Result (Unit {0}) E → S → Type 0) (may : S → Y → Type 0)
    (also : S → X → Type 0) (outer : S → X → X → Result (Unit {0}) E → S → Type 0)
    (asks : (s : S) (x : X) → size x < bound → MayWalk may (λ s y t. (z : Y) × call s y z (Ok tt) t) s (places x) → also s x)
    (walks : (s : S) (x y : X) (t : S) → outer s x y (Ok tt) t → Write call s (places x) (places y) (Ok tt) t) where
  may_each : (s : S) (xs : List X) → total size xs < bound → MayWalk may (λ s y t. (z : Y) × call s y z (Ok tt) t) s (flat_map places xs)
      → may_walk also (λ s x t. (y : X) × outer s x y (Ok tt) t) s xs
  may_each s [] l p = tt
  may_each s (x ∷ xs) l p = (
    asks s x (omega (arith, l)) (may_left (places x) (flat_map places xs) p),
    λ t c. may_each t xs (omega (arith, l)) (may_after (walks s x c.0 t c.1) (flat_map places xs) p),
  )

module _ {S X Y E : Type 0} {places : X → List Y} {call : S → Y → Y → Result (Unit {0}) E → S → Type 0} {s : S} {xs : List X} where
  pub write_through : {outer : S → X → X → Result (Unit {0}) E → S → Type 0} {ys : List X} {r : Result (Unit {0}) E} {t : S} → Write outer s xs ys r t
      → ((s : S) (x y : X) (r : Result (Unit {0}) E) (t : S) → outer s x y r t → Write call s (places x) (places y) r t)
      → Write call s (flat_map places xs) (flat_map places ys) r t
  write_through {outer} {ys} {r} {t} p walks = through places call outer walks s xs ys r t p.calls

  pub may_write_through : {may : S → Y → Type 0} {also : S → X → Type 0} (outer : S → X → X → Result (Unit {0}) E → S → Type 0) (size : X → ℕ) (bound : ℕ)
      → MayWalk may (λ s y t. (z : Y) × call s y z (Ok tt) t) s (flat_map places xs) → total size xs < bound
      → ((s : S) (x : X) → size x < bound → MayWalk may (λ s y t. (z : Y) × call s y z (Ok tt) t) s (places x) → also s x)
      → ((s : S) (x y : X) (t : S) → outer s x y (Ok tt) t → Write call s (places x) (places y) (Ok tt) t)
      → MayWalk also (λ s x t. (y : X) × outer s x y (Ok tt) t) s xs
  may_write_through {may} {also} outer size bound p l asks walks = record { each = may_each places size bound call may also outer asks walks s xs l p }

module _ {S X Y E : Type 0} {outer : S → X → X → Result (Unit {0}) E → S → Type 0} {s : S} {xs ys : List X} {r : Result (Unit {0}) E} {t : S} where
  pub kept_through : (kept : X → Y) → Write outer s xs ys r t → ((s : S) (x y : X) (r : Result (Unit {0}) E) (t : S) → outer s x y r t → kept y ≡ kept x)
      → map kept ys ≡ map kept xs
  kept_through kept p keeps = all_kept kept outer keeps s xs ys r t p.calls
