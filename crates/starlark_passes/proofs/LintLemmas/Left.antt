-- What `retain` leaves, if what is seen of an item determines whether it is removed.
use Rattle.std.proofs.Common.{◌≡◌, Bool, true, false, List, [], ◌∷◌, length, map, refl, inl, inr, arith, subst, sym}
use Rattle.std.specs.List.{items_where_true}
use Rattle.std.specs.List.Retain.{ReturnsInTurn, IsFiltered}
use Rattle.starlark_passes.specs.Lint.Without.{Without, leaves}

module _ {X Y P : Type 0} (R : P → X → Bool → P → Type 0) (seen : X → Y) (is_out : Y → Type 0) (f : P)
    (says : (x : X) (b : Bool) (f' : P) → R f x b f' → (b ≡ true → is_out (seen x) → ⊥) × (b ≡ false → is_out (seen x)) × (f' ≡ f)) where
  left_by : (xs : List X) (bs : List Bool) (q : P) → length bs ≡ length xs → ReturnsInTurn R f bs xs q
      → leaves is_out (map seen xs) (map seen (items_where_true bs xs))
  left_by [] [] q l h = refl
  left_by [] (b ∷ bs) q l h = absurd h
  left_by (x ∷ xs) [] q l h = absurd (omega (arith, l))
  left_by (x ∷ xs) (true ∷ bs) q l h =
      let one = says x true h.0 h.1 in
      inr (one.0 refl, (map seen (items_where_true bs xs), refl, left_by xs bs q (omega (arith, l)) (subst (λ g. ReturnsInTurn R g bs xs q) one.2 h.2)))
  left_by (x ∷ xs) (false ∷ bs) q l h =
      let one = says x false h.0 h.1 in
      inl (one.1 refl, left_by xs bs q (omega (arith, l)) (subst (λ g. ReturnsInTurn R g bs xs q) one.2 h.2))

  pub without_from_retain : (xs ys : List X) → IsFiltered R f xs ys → Without is_out (map seen xs) (map seen ys)
  without_from_retain xs ys h = record { leaving = subst (λ zs. leaves is_out (map seen xs) (map seen zs)) (sym h.4) (left_by xs h.0 h.1 h.2 h.3) }
