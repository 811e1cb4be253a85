-- Tests of the items of a list, one after another.
use Rattle.std.proofs.Common.{◌≡◌, ℕ, ◌<◌, ◌≤◌, ◌+◌, List, length, take, drop, get_or, map, Ok, Err, sym, ap, ◌∙◌, arith}
use Rattle.std.specs.List.{flat_map}
use Rattle.std.proofs.lemmas.List.{take_all}
use Rattle.std.proofs.lemmas.List.Folds.{flat_map-map, length-flat_map-take}
use Rattle.starlark_lexer.specs.Places.{File}
use Rattle.starlark_spec.specs.Faults.{Fault}
use Rattle.starlark_checks.specs.Refusals.{Refusal}
use Rattle.starlark_validate.specs.TestResults.{Tested}
use Rattle.starlark_tree.proofs.Loops.{parted}
use Rattle.starlark_validate.proofs.AddedExpressions.{grown}
use Rattle.starlark_validate.proofs.TestSequences.{then, stops}

module _ {A X : Type 0} (faults : X → List Fault) (seen : A → X) (xs : List A) (i : ℕ) (x : A) {file : File}
    (before : Tested file (flat_map faults (map seen (take i xs))) (Ok tt)) where
  before_it : Tested file (flat_map (λ (y : A). faults (seen y)) (take i xs)) (Ok tt)
  before_it = rw (flat_map-map faults seen (take i xs)) at before

  -- the loop continues
  pub each_more : i < length xs → x ≡ get_or xs i x → Tested file (faults (seen x)) (Ok tt) → Tested file (flat_map faults (map seen (take (i + 1) xs))) (Ok tt)
  each_more within is now = rw (flat_map-map faults seen (take (i + 1) xs), sym (grown (λ (y : A). faults (seen y)) xs i x within is)) (then before_it now)

  -- it stops at a fault
  pub each_stops : {e : Refusal} → i < length xs → x ≡ get_or xs i x → Tested file (faults (seen x)) (Err e) → Tested file (flat_map faults (map seen xs))
      (Err e)
  each_stops within is now =
      rw (flat_map-map faults seen xs, parted (λ (y : A). faults (seen y)) xs i x within is)
      (then before_it (stops (flat_map (λ (y : A). faults (seen y)) (drop (i + 1) xs)) now))

-- it is complete
pub each_done : {A X : Type 0} (faults : X → List Fault) (seen : A → X) (xs : List A) (i : ℕ) {file : File}
    → Tested file (flat_map faults (map seen (take i xs))) (Ok tt) → length xs ≤ i → Tested file (flat_map faults (map seen xs)) (Ok tt)
each_done faults seen xs i before done = rw (take_all i xs done) at before

-- what an item contains is no more than what all contain
pub item_shorter : {A X Y : Type 0} (held : X → List Y) (seen : A → X) (xs : List A) (ys : List X) (i : ℕ) (x : A)
    → map seen xs ≡ ys → i < length xs → x ≡ get_or xs i x → length (held (seen x)) ≤ length (flat_map held ys)
item_shorter held seen xs ys i x same within is =
    let least = length-flat_map-take (λ y. held (seen y)) xs i x within in
    let all : flat_map held ys ≡ flat_map (λ y. held (seen y)) xs = ap (flat_map held) (sym same) ∙ flat_map-map held seen xs in
    rw (all, is) (omega (arith, least))
