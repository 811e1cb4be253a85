-- Mutable walks by a loop over a list, each item of which is a node.
use Rattle.std.proofs.Common.{ℕ, ◌<◌, List, [], ◌∷◌, length, get_or, map, refl}
use Rattle.starlark_tree.specs.Walks.{MayWriteBy, Writing}
use Rattle.starlark_uniplate_mut.proofs.WriteLoops.{WrittenTo, may_item, may_places}

module _ {A X Y S E : Type 0} (place : A → X) (frame : A → Y) (by : Writing S X E) where
  pub record SpotsTo (i : ℕ) (s : S) (old new : List A) (t : S) : Type 0 where
    pub to : WrittenTo (λ (a : A). place a ∷ []) frame by i s old new t

module _ {A X Y S E : Type 0} {place : A → X} {frame : A → Y} {by : Writing S X E} {i : ℕ} {s : S} {old new : List A} {u : S} where
  -- the item at i, in a form for proof search: the conclusion begins with the fact that it is drawn from
  pub at_spot : SpotsTo place frame by i s old new u → i < length old
      → SpotsTo place frame by i s old new u
      × ((d : A) → MayWriteBy by s (map place old) → by.may u (place (get_or new i d)))
  at_spot w h = (w, λ d m. (may_item (λ (a : A). place a ∷ []) frame by old new i d refl h w.to (may_places place old m)).each.0)
