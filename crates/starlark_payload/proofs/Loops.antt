-- What a loop passes from an item is smaller than the list that it maps.
use Rattle.std.proofs.Common.{◌≡◌, ℕ, ◌<◌, ◌≤◌, ◌+◌, ◌*◌, List, ◌∷◌, ◌++◌, length, length-append, get_or, max, Option, Some, IfSome, refl, sym, ap, ◌∙◌, arith}
use Rattle.std.proofs.Math.Nat.{mul-le-mul_left}
use Rattle.std.proofs.lemmas.List.{get_or_at}
use Rattle.std.specs.Vec.Iter.{into_iter_items}
use Rattle.starlark_payload.specs.declared.function.made.Mapping.{Mapping}
use denote.Param.Weighed.{most, at_most}

module _ {X Y : Type 0} (xs done : List X) (m n : Mapping X Y) (r : Option X) (split : xs ≡ done ++ into_iter_items m.rest)
    (some : IfSome r (λ x. into_iter_items m.rest ≡ x ∷ into_iter_items n.rest)) where
  -- where the item is
  item_at : (x : X) → r ≡ Some x → (length done < length xs) × (x ≡ get_or xs (length done) x)
  item_at x is =
      let taken : into_iter_items m.rest ≡ x ∷ into_iter_items n.rest = rw is at some in
      let e : xs ≡ done ++ x ∷ into_iter_items n.rest = split ∙ ap (λ l. done ++ l) taken in (
        omega (arith, ap length e, length-append done (x ∷ into_iter_items n.rest)),
        sym (ap (λ l. get_or l (length done) x) e ∙ get_or_at done x (into_iter_items n.rest) x (length done) refl),
      )

  -- what is passed from an item is smaller than the list, if the function that receives it has a lower rank
  pub item_below : (x : X) (μ : X → ℕ) (ranks i j size : ℕ) → r ≡ Some x → ranks * most μ xs + j ≡ size → i < j → ranks * μ x + i < size
  item_below x μ ranks i j size is e low =
      let place = item_at x is in
      let least : μ x ≤ most μ xs = rw (← place.1) at (at_most μ xs (length done) x place.0) in
      under (mul-le-mul_left ranks least) e low
    where
      under : {a b i j size : ℕ} → a ≤ b → b + j ≡ size → i < j → a + i < size
      under least e low = omega (arith, least, e, low)

  -- what an item contains is smaller than the list
  pub item_smaller : (x : X) (μ : X → ℕ) (ranks i j size : ℕ) → r ≡ Some x → ranks * most (λ p. max (μ p) 0) xs + j ≡ size → i < j
      → ranks * μ x + i < size
  item_smaller x μ ranks i j size is e low =
      let place = item_at x is in
      let least : max (μ x) 0 ≤ most (λ p. max (μ p) 0) xs = rw (← place.1) at (at_most (λ p. max (μ p) 0) xs (length done) x place.0) in
      let held : μ x ≤ most (λ p. max (μ p) 0) xs = omega (arith, least) in
      under (mul-le-mul_left ranks held) e low
    where
      under : {a b i j size : ℕ} → a ≤ b → b + j ≡ size → i < j → a + i < size
      under least e low = omega (arith, least, e, low)
