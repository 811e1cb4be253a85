-- The result of a stable sort by a number is the list with each item inserted in order.
use Rattle.std.proofs.Common.{◌≡◌, ℕ, zero, suc, ◌<◌, ◌≤◌, Bool, true, false, List, [], ◌∷◌, length, get_or, filter, map, nat_cmp, nat_lt, is_lt}
use Rattle.std.proofs.Common.{if◌then◌else◌, refl, sym, ap, ◌∙◌, arith, inl, inr, suc-le-suc, zero-le}
use Rattle.std.proofs.lemmas.Bool.{cond-true, cond-false, cases_Bool}
use Rattle.std.proofs.lemmas.Bool.Decides.{nat_tests}
use Rattle.std.specs.List.Sorted.{ties, IsNonDecreasingBy, IsStableByKey}
use Rattle.starlark_passes.specs.Lint.Sorting.{placed, sorted_by}

ties_at : (m n : ℕ) → (ties (λ x y. is_lt (nat_cmp x y)) m n ≡ true → m ≡ n) × (m ≡ n → ties (λ x y. is_lt (nat_cmp x y)) m n ≡ true)
ties_at m n = (λ h. grind (arith, nat_tests), λ h. grind (arith, nat_tests))

smaller : (m n : ℕ) → nat_lt m n ≡ true → m < n
smaller m n h = grind (arith, nat_tests)

not_smaller : (m n : ℕ) → nat_lt m n ≡ false → n ≤ m
not_smaller m n h = grind (arith, nat_tests)

module _ {X : Type 0} (p : X → Bool) where
  kept : (y : X) (ys : List X) → p y ≡ true → filter p (y ∷ ys) ≡ y ∷ filter p ys
  kept y ys h = cond-true _ _ _ h

  dropped : (y : X) (ys : List X) → p y ≡ false → filter p (y ∷ ys) ≡ filter p ys
  dropped y ys h = cond-false _ _ _ h

module _ {X : Type 0} (n : X → ℕ) where
  abbrev same : X → X → Bool
  same = ties (λ x y. is_lt (nat_cmp (n x) (n y)))

  same-true : (x y : X) → same x y ≡ true → n x ≡ n y
  same-true x y = (ties_at (n x) (n y)).0

  same_from : (x y : X) → n x ≡ n y → same x y ≡ true
  same_from x y = (ties_at (n x) (n y)).1

  past : (x y : X) (ys : List X) → nat_lt (n y) (n x) ≡ true → placed n x (y ∷ ys) ≡ y ∷ placed n x ys
  past x y ys h = cond-true _ _ _ h

  stays : (x y : X) (ys : List X) → nat_lt (n y) (n x) ≡ false → placed n x (y ∷ ys) ≡ x ∷ y ∷ ys
  stays x y ys h = cond-false _ _ _ h

  filter-placed : (x c : X) (ds : List X) → filter (same x) (placed n c ds) ≡ filter (same x) (c ∷ ds)
  filter-placed x c [] = refl
  filter-placed x c (d ∷ ds) =
      let p = same x in
      elim (cases_Bool (nat_lt (n d) (n c))) [
        | inr after ↦ ap (filter p) (stays c d ds after)
        | inl before ↦
            let below = smaller (n d) (n c) before in
            ap (filter p) (past c d ds before)
            ∙ elim (cases_Bool (p d)) [
              | inr without ↦
                  dropped p d (placed n c ds) without ∙ filter-placed x c ds
                  ∙ ap (λ l. if p c then c ∷ l else l) (sym (dropped p d ds without))
              | inl with ↦
                  elim (cases_Bool (p c)) [
                    | inl both ↦ absurd (omega (arith, below, same-true x c both, same-true x d with))
                    | inr only ↦
                        kept p d (placed n c ds) with ∙ ap (λ l. d ∷ l) (filter-placed x c ds ∙ dropped p c ds only)
                        ∙ sym (dropped p c (d ∷ ds) only ∙ kept p d ds with)
                  ]
            ]
      ]

  filter-sorted : (x : X) (cs : List X) → filter (same x) (sorted_by n cs) ≡ filter (same x) cs
  filter-sorted x [] = refl
  filter-sorted x (c ∷ cs) = filter-placed x c (sorted_by n cs) ∙ ap (λ l. if same x c then c ∷ l else l) (filter-sorted x cs)

  abbrev AreAtLeast : ℕ → List X → Type 0
  AreAtLeast m [] = Unit {0}
  AreAtLeast m (y ∷ ys) = (m ≤ n y) × AreAtLeast m ys

  abbrev Rises : List X → Type 0
  Rises [] = Unit {0}
  Rises (y ∷ ys) = AreAtLeast (n y) ys × Rises ys

  AreAtLeast-le : (k m : ℕ) (ys : List X) → k ≤ m → AreAtLeast m ys → AreAtLeast k ys
  AreAtLeast-le k m [] le h = tt
  AreAtLeast-le k m (y ∷ ys) le h = let first = h.0 in (omega arith, AreAtLeast-le k m ys le h.1)

  AreAtLeast-at : (m : ℕ) (ys : List X) → ((j : ℕ) (d : X) → j < length ys → m ≤ n (get_or ys j d)) → AreAtLeast m ys
  AreAtLeast-at m [] h = tt
  AreAtLeast-at m (y ∷ ys) h = (h zero y (suc-le-suc zero-le), AreAtLeast-at m ys (λ j d lt. h (suc j) d (suc-le-suc lt)))

  Rises-from_sort : (ys : List X) → IsNonDecreasingBy n ys → Rises ys
  Rises-from_sort [] h = tt
  Rises-from_sort (y ∷ ys) h = (
    AreAtLeast-at (n y) ys (λ j d lt. h zero (suc j) d zero-le (suc-le-suc lt)),
    Rises-from_sort ys (λ i j d le lt. h (suc i) (suc j) d (suc-le-suc le) (suc-le-suc lt)),
  )

  AreAtLeast-placed : (m : ℕ) (c : X) (ds : List X) → m ≤ n c → AreAtLeast m ds → AreAtLeast m (placed n c ds)
  AreAtLeast-placed m c [] le h = (le, tt)
  AreAtLeast-placed m c (d ∷ ds) le h =
      elim (cases_Bool (nat_lt (n d) (n c))) [
        | inl before ↦ rw (past c d ds before) (h.0, AreAtLeast-placed m c ds le h.1)
        | inr after ↦ rw (stays c d ds after) (le, h)
      ]

  Rises-placed : (c : X) (ds : List X) → Rises ds → Rises (placed n c ds)
  Rises-placed c [] h = (tt, tt)
  Rises-placed c (d ∷ ds) h =
      elim (cases_Bool (nat_lt (n d) (n c))) [
        | inl before ↦
            let below = smaller (n d) (n c) before in
            rw (past c d ds before) (AreAtLeast-placed (n d) c ds (omega arith) h.0, Rises-placed c ds h.1)
        | inr after ↦
            let above = not_smaller (n d) (n c) after in
            rw (stays c d ds after) ((above, AreAtLeast-le (n c) (n d) ds above h.0), h)
      ]

  Rises-sorted : (cs : List X) → Rises (sorted_by n cs)
  Rises-sorted [] = tt
  Rises-sorted (c ∷ cs) = Rises-placed c (sorted_by n cs) (Rises-sorted cs)

  -- the number of x occurs among theirs
  AreAtLeast-found : (m : ℕ) (x : X) (ys : List X) (w : X) (ws : List X) → AreAtLeast m ys → filter (same x) ys ≡ w ∷ ws → m ≤ n x
  AreAtLeast-found m x [] w ws h e = cc
  AreAtLeast-found m x (y ∷ ys) w ws h e =
      elim (cases_Bool (same x y)) [
        | inl with ↦ omega (arith, h.0, same-true x y with)
        | inr without ↦ AreAtLeast-found m x ys w ws h.1 (sym (dropped (same x) y ys without) ∙ e)
      ]

  same_from_classes : (ys zs : List X) → Rises ys → Rises zs → ((x : X) → filter (same x) ys ≡ filter (same x) zs) → ys ≡ zs
  same_from_classes [] [] left right alike = refl
  same_from_classes [] (z ∷ zs) left right alike =
      let clash = alike z ∙ kept (same z) z zs (same_from z z refl) in cc
  same_from_classes (y ∷ ys) [] left right alike =
      let clash = sym (alike y) ∙ kept (same y) y ys (same_from y y refl) in cc
  same_from_classes (y ∷ ys) (z ∷ zs) left right alike =
      let at_y = kept (same y) y ys (same_from y y refl) in
      let at_z = kept (same z) z zs (same_from z z refl) in
      let up = AreAtLeast-found (n z) y (z ∷ zs) y _ (omega arith, right.0) (sym (alike y) ∙ at_y) in
      let down = AreAtLeast-found (n y) z (y ∷ ys) z _ (omega arith, left.0) (alike z ∙ at_z) in
      let heads = sym at_y ∙ alike y ∙ kept (same y) z zs (same_from y z (omega arith)) in
      let head : y ≡ z = cc in
      let tails : (x : X) → filter (same x) ys ≡ filter (same x) zs =
      λ x. elim (cases_Bool (same x y)) [
        | inl with ↦
            let both = sym (kept (same x) y ys with) ∙ alike x ∙ kept (same x) z zs (ap (same x) (sym head) ∙ with) in cc
        | inr without ↦
            sym (dropped (same x) y ys without) ∙ alike x ∙ dropped (same x) z zs (ap (same x) (sym head) ∙ without)
      ] in
      ap (λ w. w ∷ ys) head ∙ ap (λ l. z ∷ l) (same_from_classes ys zs left.1 right.1 tails)

  pub sorted_from_sort : (xs ys : List X) → IsNonDecreasingBy n ys → IsStableByKey n nat_cmp xs ys → ys ≡ sorted_by n xs
  sorted_from_sort xs ys sorted stable =
      same_from_classes ys (sorted_by n xs) (Rises-from_sort ys sorted) (Rises-sorted xs) (λ x. stable x ∙ sym (filter-sorted x xs))

-- what is seen of a sorted list is the sorted list of what is seen
module _ {X Y : Type 0} (f : X → Y) (n : Y → ℕ) where
  map-placed : (x : X) (ys : List X) → map f (placed (λ z. n (f z)) x ys) ≡ placed n (f x) (map f ys)
  map-placed x [] = refl
  map-placed x (y ∷ ys) = by (nat_lt (n (f y)) (n (f x))) (map-placed x ys)
    where
      by : (b : Bool) → map f (placed (λ z. n (f z)) x ys) ≡ placed n (f x) (map f ys)
          → map f (if b then y ∷ placed (λ z. n (f z)) x ys else x ∷ y ∷ ys) ≡ (if b then f y ∷ placed n (f x) (map f ys) else f x ∷ f y ∷ map f ys)
      by true h = ap (λ l. f y ∷ l) h
      by false h = refl

  pub map-sorted : (xs : List X) → map f (sorted_by (λ z. n (f z)) xs) ≡ sorted_by n (map f xs)
  map-sorted [] = refl
  map-sorted (x ∷ xs) = map-placed x (sorted_by (λ z. n (f z)) xs) ∙ ap (placed n (f x)) (map-sorted xs)
