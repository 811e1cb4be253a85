-- What is left of a list without some of its items.
use Rattle.std.specs.Prelude.{◌≡◌, ◌⊎◌, List as Seq, [], ◌∷◌}

module _ {X : Type 0} (is_out : X → Type 0) where
  abbrev pub leaves : Seq X → Seq X → Type 0
  leaves [] left = left ≡ []
  leaves (x ∷ xs) left = (is_out x × leaves xs left) ⊎ ((is_out x → ⊥) × ((rest : Seq X) × (left ≡ x ∷ rest) × leaves xs rest))

  -- the items that are not out are left, in their order
  pub record Without (all left : Seq X) : Type 0 where
    pub leaving : leaves all left
