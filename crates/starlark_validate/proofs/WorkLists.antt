-- A list from which the last item is removed, and to which its parts are added.
use Rattle.std.proofs.Common.{◌≡◌, ◌<◌, ◌+◌, List, [], ◌∷◌, ◌++◌, length, length-append, map, sym, ap, ◌∙◌, arith}
use Rattle.std.specs.List.{flat_map}
use Rattle.std.proofs.lemmas.Grind.{flat_map-append}
use Rattle.std.proofs.lemmas.List.{map_push}
use Rattle.starlark_validate.proofs.FaultlessParts.{in_left, in_right, last_none}

module _ {A X Y : Type 0} (seen : A → X) (f : X → List Y) (xs init after : List A) (x : A) (parts : List X) (whole : xs ≡ init ++ x ∷ [])
    (grown : map seen after ≡ map seen init ++ parts) where
  seen_whole : map seen xs ≡ map seen init ++ seen x ∷ []
  seen_whole = ap (map seen) whole ∙ map_push seen init x

  -- none is in the list if none is after the step, and none is in the item if none is in its parts
  pub popped_none : (flat_map f parts ≡ [] → f (seen x) ≡ []) → flat_map f (map seen after) ≡ [] → flat_map f (map seen xs) ≡ []
  popped_none item none =
      let split : flat_map f (map seen init ++ parts) ≡ [] = ap (flat_map f) (sym grown) ∙ none in
      ap (flat_map f) seen_whole ∙ last_none f (map seen init) (seen x) (in_left f (map seen init) parts split) (item (in_right f (map seen init) parts split))

  -- the measure decreases if that of the parts is less than that of the item
  pub popped_falls : length (flat_map f parts) < length (f (seen x)) → length (flat_map f (map seen after)) < length (flat_map f (map seen xs))
  popped_falls less =
      let now : length (flat_map f (map seen after)) ≡ length (flat_map f (map seen init)) + length (flat_map f parts) =
      ap (λ ys. length (flat_map f ys)) grown ∙ ap length (flat_map-append f (map seen init) parts)
      ∙ length-append (flat_map f (map seen init)) (flat_map f parts) in
      let before : length (flat_map f (map seen xs)) ≡ length (flat_map f (map seen init)) + length (f (seen x) ++ []) =
      ap (λ ys. length (flat_map f ys)) seen_whole ∙ ap length (flat_map-append f (map seen init) (seen x ∷ []))
      ∙ length-append (flat_map f (map seen init)) (f (seen x) ++ []) in
      omega (arith, less, now, before, length-append (f (seen x)) [])
