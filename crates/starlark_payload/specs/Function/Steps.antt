-- Steps of a state, one after another.
use Rattle.std.specs.Prelude.{◌≡◌, List, [], ◌∷◌}

module _ {F : Type 0} where
  -- one, and then the other
  infixr 20 ◌⨾◌
  abbrev pub ◌⨾◌ : (F → F → Type 0) → (F → F → Type 0) → F → F → Type 0
  (first ⨾ second) before after = (between : F) × first before between × second between after

  -- a step for which a fact holds
  infixr 10 ◌and◌
  abbrev pub ◌and◌ : Type 0 → (F → F → Type 0) → F → F → Type 0
  (fact and step) before after = fact × step before after

  -- no step
  abbrev pub nothing : F → F → Type 0
  nothing before after = after ≡ before

  -- what does not happen
  abbrev pub never : F → F → Type 0
  never before after = ⊥

  -- a step for each two values at the same index
  abbrev pub Each : {X Y : Type 0} → (X → Y → F → F → Type 0) → List X → List Y → F → F → Type 0
  Each step [] [] = nothing
  Each step (x ∷ xs) (y ∷ ys) = step x y ⨾ Each step xs ys
  Each step _ _ = never
