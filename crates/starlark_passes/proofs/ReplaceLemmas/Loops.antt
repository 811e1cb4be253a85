-- A loop over parts of a kind, each of which is replaced in place.
use Rattle.std.proofs.Common.{◌≡◌, ℕ, zero, suc, ◌-◌, ◌+◌, ◌<◌, ◌≤◌, List, [], ◌∷◌, ◌++◌, length, take, get_or, set, map, Result, Ok, Err, IsErr, refl, sym}
use Rattle.std.proofs.Common.{ap, ◌∙◌, arith, subst}
use Rattle.std.specs.List.{flat_map}
use Rattle.std.proofs.lemmas.List.{take_more, take_all, map-set, length-map}
use Rattle.std.proofs.Math.ListN.{get_or-map}
use Rattle.std.proofs.lemmas.Grind.{flat_map-append}
use Rattle.starlark_passes.specs.Replace.Replacing.{Table, named}
use Rattle.starlark_passes.specs.Replace.Parts.{Part, Replaces, each, each_replaced}
use Rattle.starlark_passes.proofs.ReplaceLemmas.Laws.{named-append}
use Rattle.starlark_passes.proofs.ReplaceLemmas.Steps.{Lawful, failing}

and_nothing : (n : ℕ) → n + 0 ≡ n
and_nothing n = omega arith

module _ {X : Type 0} (table : Table) (p : Part X) where
  -- how many operators the parts have
  abbrev pub total : List X → ℕ
  total xs = named table (flat_map p.inside xs)

  pub total-cons : (x : X) (xs : List X) → total (x ∷ xs) ≡ named table (p.inside x) + total xs
  total-cons x xs = named-append table (p.inside x) (flat_map p.inside xs)

  pub total-more : (xs : List X) (i : ℕ) (d : X) → i < length xs → total (take (i + 1) xs) ≡ total (take i xs) + named table (p.inside (get_or xs i d))
  total-more xs i d within =
      ap (λ l. named table (flat_map p.inside l)) (take_more xs i d within)
      ∙ ap (named table) (flat_map-append p.inside (take i xs) (get_or xs i d ∷ []))
      ∙ named-append table (flat_map p.inside (take i xs)) (flat_map p.inside (get_or xs i d ∷ []))
      ∙ ap (λ n. total (take i xs) + n) (named-append table (p.inside (get_or xs i d)) [] ∙ and_nothing (named table (p.inside (get_or xs i d))))

  pub total-here : (xs : List X) (i : ℕ) (d : X) → i < length xs → total (take i xs) + named table (p.inside (get_or xs i d)) ≤ total xs
  total-here [] i d within = absurd (omega arith)
  total-here (x ∷ xs) zero d within = let a = total-cons x xs in omega (arith, a)
  total-here (x ∷ xs) (suc i) d within =
      let a = total-cons x xs in
      let b = total-cons x (take i xs) in
      let h = total-here xs i d (omega arith) in
      omega (arith, a, b, h)

module _ {X : Type 0} (table : Table) (p : Part X) (law : Lawful table p) where
  pub each-none : (k : ℕ) → k ≡ 0 → (xs : List X) → each_replaced table p k xs ≡ xs
  each-none k h [] = refl
  each-none k h (x ∷ xs) =
      let less : k - named table (p.inside x) ≡ 0 = omega arith in
      λ i. law.none k h x i ∷ each-none (k - named table (p.inside x)) less xs i

  pub each-same : (j k : ℕ) (xs : List X) → total table p xs ≤ j → total table p xs ≤ k → each_replaced table p j xs ≡ each_replaced table p k xs
  each-same j k [] hj hk = refl
  each-same j k (x ∷ xs) hj hk =
      let e = total-cons table p x xs in
      let front = law.same j k x (omega (arith, e)) (omega (arith, e)) in
      let back = each-same (j - named table (p.inside x)) (k - named table (p.inside x)) xs (omega (arith, e)) (omega (arith, e)) in
      λ i. front i ∷ back i

  pub each_lawful : Lawful table (each table p)
  each_lawful = record { none = each-none; same = each-same }

  -- the next part is unchanged
  pub each-next : (xs : List X) (i : ℕ) (d : X) → get_or (each_replaced table p (total table p (take i xs)) xs) i d ≡ get_or xs i d
  each-next [] i d = refl
  each-next (x ∷ xs) zero d = law.none 0 refl x
  each-next (x ∷ xs) (suc i) d =
      let e = total-cons table p x (take i xs) in
      let k : total table p (x ∷ take i xs) - named table (p.inside x) ≡ total table p (take i xs) = omega (arith, e) in
      ap (λ n. get_or (each_replaced table p n xs) i d) k ∙ each-next xs i d

  -- and then some of its operators are replaced
  pub each-step : (xs : List X) (i : ℕ) (d : X) (m : ℕ) → i < length xs → m ≤ named table (p.inside (get_or xs i d))
      → set (each_replaced table p (total table p (take i xs)) xs) i (p.replaced m (get_or xs i d)) ≡ each_replaced table p (total table p (take i xs) + m) xs
  each-step [] i d m within fits = absurd (omega arith)
  each-step (x ∷ xs) zero d m within fits =
      let none : total table p [] + m ≡ m = omega arith in
      let before : total table p [] - named table (p.inside x) ≡ (total table p [] + m) - named table (p.inside x) = omega arith in
      λ i. p.replaced (sym none i) x ∷ each_replaced table p (before i) xs
  each-step (x ∷ xs) (suc i) d m within fits =
      let e = total-cons table p x (take i xs) in
      let k : total table p (x ∷ take i xs) - named table (p.inside x) ≡ total table p (take i xs) = omega (arith, e) in
      let l : (total table p (x ∷ take i xs) + m) - named table (p.inside x) ≡ total table p (take i xs) + m = omega (arith, e) in
      let front = law.same (total table p (x ∷ take i xs)) (total table p (x ∷ take i xs) + m) x (omega (arith, e)) (omega (arith, e)) in
      let back =
      ap (λ n. set (each_replaced table p n xs) i (p.replaced m (get_or xs i d))) k
      ∙ each-step xs i d m (omega arith) fits
      ∙ ap (λ n. each_replaced table p n xs) (sym l) in
      λ i. front i ∷ back i

-- The same for parts in memory, if something of it is seen.
module _ {X A : Type 0} {table : Table} {p : Part X} (law : Lawful table p) (seen : A → X) (old : List A) where
  -- the operators of the parts before an index are replaced
  pub record SoFar (i : ℕ) (now : List A) : Type 0 where
    pub stands : map seen now ≡ each_replaced table p (total table p (take i (map seen old))) (map seen old)

  pub none_yet : SoFar 0 old
  none_yet = record { stands = sym (each-none table p law 0 refl (map seen old)) }

  -- the part at the index is unchanged
  pub next_is : (i : ℕ) (now : List A) (d : A) → SoFar i now → seen (get_or now i d) ≡ get_or (map seen old) i (seen d)
  next_is i now d h =
      sym (get_or-map seen now i d) ∙ ap (λ l. get_or l i (seen d)) h.stands ∙ each-next table p law (map seen old) i (seen d)

  step : (i : ℕ) (now : List A) (d y : A) (m : ℕ) → i < length old → SoFar i now → m ≤ named table (p.inside (seen (get_or now i d)))
      → seen y ≡ p.replaced m (seen (get_or now i d)) → map seen (set now i y) ≡ each_replaced table p (total table p (take i (map seen old)) + m)
      (map seen old)
  step i now d y m within h fits is =
      let here = next_is i now d h in
      map-set seen now i y
      ∙ ap (λ l. set l i (seen y)) h.stands
      ∙ ap (λ z. set (each_replaced table p (total table p (take i (map seen old))) (map seen old)) i z) (is ∙ ap (p.replaced m) here)
      ∙ each-step table p law (map seen old) i (seen d) m (rw (length-map old seen) within) (rw here at fits)

  pub one_more : {E : Type 0} (i : ℕ) (now : List A) (d y : A) (u : Unit {0}) → i < length old → SoFar i now
      → Replaces {E = E} table p (Ok u) (seen (get_or now i d)) (seen y) → SoFar (i + 1) (set now i y)
  one_more i now d y u within h r =
      let here = next_is i now d h in
      let more = total-more table p (map seen old) i (seen d) (rw (length-map old seen) within) in
      let count : total table p (take i (map seen old)) + r.count ≡ total table p (take (i + 1) (map seen old)) =
      ap (λ n. total table p (take i (map seen old)) + n) (r.reaches ∙ ap (λ z. named table (p.inside z)) here) ∙ sym more in
      record { stands = step i now d y r.count within h (omega (arith, r.reaches)) r.stands ∙ ap (λ n. each_replaced table p n (map seen old)) count }

  pub stops_at : {E : Type 0} (i : ℕ) (now : List A) (d y : A) {e : E} (result : Result (Unit {0}) E) → IsErr result → i < length old → SoFar i now
      → Replaces table p (Err e) (seen (get_or now i d)) (seen y)
      → Replaces table (each table p) result (map seen old) (map seen (set now i y))
  stops_at i now d y result failed within h r =
      let here = next_is i now d h in
      let below = total-here table p (map seen old) i (seen d) (rw (length-map old seen) within) in
      let less : r.count < named table (p.inside (get_or (map seen old) i (seen d))) = rw here at r.reaches in
      record {
        count = total table p (take i (map seen old)) + r.count;
        reaches = failing table (flat_map p.inside (map seen old)) (total table p (take i (map seen old)) + r.count) result failed (omega (arith, below, less));
        stands = step i now d y r.count within h (omega (arith, r.reaches)) r.stands;
      }

  pub all_done : {E : Type 0} (i : ℕ) (now : List A) (u : Unit {0}) → length old ≤ i → SoFar i now → Replaces {E = E} table (each table p) (Ok u)
      (map seen old) (map seen now)
  all_done i now u end h = record {
    count = total table p (map seen old);
    reaches = refl;
    stands = h.stands ∙ ap (λ l. each_replaced table p (total table p l) (map seen old)) (take_all i (map seen old) (rw (length-map old seen) end));
  }
