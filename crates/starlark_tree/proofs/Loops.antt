-- Walks by a loop over a list, each item of which has its nodes.
use Rattle.std.proofs.Common.{◌≡◌, ℕ, ◌<◌, ◌+◌, List, [], ◌∷◌, ◌++◌, length, take, drop, get_or, map, Result, Ok, Err, refl, sym, ap, ◌∙◌}
use Rattle.std.specs.List.{flat_map}
use Rattle.std.proofs.lemmas.List.{take-append-drop, drop_more, take_more}
use Rattle.std.proofs.lemmas.List.Concat.{flat_map-append, flat_map_single}
use Rattle.starlark_tree.specs.Walks.{MayWalk, Walk}
use Rattle.starlark_tree.proofs.Steps.{may_left, may_right, walk_on, walk_stops}

nothing_after : {X : Type 0} (ys : List X) → ys ++ [] ≡ ys
nothing_after [] = refl
nothing_after {X} (y ∷ ys) = ap (λ (zs : List X). y ∷ zs) (nothing_after ys)

module _ {A X : Type 0} (places : A → List X) (xs : List A) (i : ℕ) (x : A) (within : i < length xs) (is : x ≡ get_or xs i x) where
  -- what is before the item, the item's, and what is after it
  pub parted : flat_map places xs ≡ flat_map places (take i xs) ++ (places x ++ flat_map places (drop (i + 1) xs))
  parted =
      ap (flat_map places) (sym (take-append-drop i xs))
      ∙ flat_map-append places (take i xs) (drop i xs)
      ∙ ap (λ (ys : List A). flat_map places (take i xs) ++ flat_map places ys) (drop_more xs i x within)
      ∙ ap (λ (y : A). flat_map places (take i xs) ++ (places y ++ flat_map places (drop (i + 1) xs))) (sym is)

  grown : flat_map places (take (i + 1) xs) ≡ flat_map places (take i xs) ++ places x
  grown =
      ap (flat_map places) (take_more xs i x within ∙ ap (λ (y : A). take i xs ++ y ∷ []) (sym is))
      ∙ flat_map-append places (take i xs) (x ∷ [])
      ∙ ap (λ (ys : List X). flat_map places (take i xs) ++ ys) (nothing_after (places x))

  module _ {S E : Type 0} {call : S → X → Result (Unit {0}) E → S → Type 0} {s u : S}
      (before : Walk call s (flat_map places (take i xs)) (Ok tt) u) where
    pub may_item : {may : S → X → Type 0} → MayWalk may (λ s x t. call s x (Ok tt) t) s (flat_map places xs) → MayWalk may (λ s x t. call s x (Ok tt) t) u
        (places x)
    may_item p = may_left (places x) (flat_map places (drop (i + 1) xs)) (may_right before _ (rw parted at p))

    pub item_more : {t : S} → Walk call u (places x) (Ok tt) t → Walk call s (flat_map places (take (i + 1) xs)) (Ok tt) t
    item_more q = rw grown (walk_on before q)

    pub item_stops : {t : S} {e : E} → Walk call u (places x) (Err e) t → Walk call s (flat_map places xs) (Err e) t
    item_stops q = rw parted (walk_on before (walk_stops (flat_map places (drop (i + 1) xs)) q))

-- the same if each item is a node
module _ {A X : Type 0} (place : A → X) (xs : List A) (i : ℕ) (x : A) (within : i < length xs) (is : x ≡ get_or xs i x) where
  module _ {S E : Type 0} {call : S → X → Result (Unit {0}) E → S → Type 0} {s u : S}
      (before : Walk call s (map place (take i xs)) (Ok tt) u) where
    pub may_place : {may : S → X → Type 0} → MayWalk may (λ s x t. call s x (Ok tt) t) s (map place xs) → MayWalk may (λ s x t. call s x (Ok tt) t) u
        (place x ∷ [])
    may_place p =
        may_item (λ (y : A). place y ∷ []) xs i x within is (rw (← flat_map_single place (take i xs)) at before) (rw (← flat_map_single place xs) at p)

    pub place_more : {t : S} → Walk call u (place x ∷ []) (Ok tt) t → Walk call s (map place (take (i + 1) xs)) (Ok tt) t
    place_more q =
        rw (← flat_map_single place (take (i + 1) xs)) (item_more (λ (y : A). place y ∷ []) xs i x within is
        (rw (← flat_map_single place (take i xs)) at before) q)

    pub place_stops : {t : S} {e : E} → Walk call u (place x ∷ []) (Err e) t → Walk call s (map place xs) (Err e) t
    place_stops q =
        rw (← flat_map_single place xs) (item_stops (λ (y : A). place y ∷ []) xs i x within is (rw (← flat_map_single place (take i xs)) at before) q)
