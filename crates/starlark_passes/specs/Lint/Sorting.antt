-- A list in the order of a number that each item has. Items with the same number stay in their order.
use Rattle.std.specs.Prelude.{ℕ, List as Seq, [], ◌∷◌, nat_lt, if◌then◌else◌}

module _ {X : Type 0} (number : X → ℕ) where
  -- an item goes after those of smaller numbers, and in front of the first other
  abbrev pub placed : X → Seq X → Seq X
  placed x [] = x ∷ []
  placed x (y ∷ ys) = if nat_lt (number y) (number x) then y ∷ placed x ys else x ∷ y ∷ ys

  abbrev pub sorted_by : Seq X → Seq X
  sorted_by [] = []
  sorted_by (x ∷ xs) = placed x (sorted_by xs)
