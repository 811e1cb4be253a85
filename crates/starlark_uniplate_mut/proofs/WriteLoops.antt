-- Mutable walks by a loop over a list, each item of which has its nodes.
use Rattle.std.proofs.Common.{◌≡◌, ℕ, ◌<◌, ◌≤◌, ◌+◌, ◌-◌, List, [], ◌∷◌, ◌++◌, length, take, drop, set, get_or, map, Result, Ok, Err, refl, sym, ap, ◌∙◌, subst}
use Rattle.std.proofs.Common.{arith}
use Rattle.std.specs.List.{flat_map}
use Rattle.std.proofs.lemmas.List.{take-append-drop, drop_all, drop_more, drop-set, drop-set-lt, length-drop, map-append, take-set, take_all, take_more}
use Rattle.std.proofs.lemmas.List.{take_more_set}
use Rattle.std.proofs.lemmas.List.Concat.{flat_map-append, flat_map_single}
use Rattle.starlark_tree.specs.Walks.{MayWalk, MayWriteBy, WriteBy, Writing, WritesIn}
use Rattle.starlark_tree.proofs.Steps.{may_left}
use Rattle.starlark_uniplate_mut.proofs.Writing.{may_after, write_at, write_none, write_on, write_stops}

-- the walk over the first i items: those after are unchanged
module _ {A X Y S E : Type 0} (places : A → List X) (frame : A → Y) (by : Writing S X E) where
  pub record WrittenTo (i : ℕ) (s : S) (old new : List A) (t : S) : Type 0 where
    pub walk : WriteBy by s (flat_map places (take i old)) (flat_map places (take i new)) (Ok tt) t
    pub rest : map frame (take i new) ≡ map frame (take i old)
    pub after : drop i new ≡ drop i old

nothing_after : {X : Type 0} (ys : List X) → ys ++ [] ≡ ys
nothing_after [] = refl
nothing_after {X} (y ∷ ys) = ap (λ (zs : List X). y ∷ zs) (nothing_after ys)

at_end : {X Y : Type 0} (f : X → List Y) (xs : List X) (x : X) → flat_map f (xs ++ x ∷ []) ≡ flat_map f xs ++ f x
at_end f xs x = flat_map-append f xs (x ∷ []) ∙ ap (λ ys. flat_map f xs ++ ys) (nothing_after (f x))

abbrev first : {X : Type 0} → X → List X → X
first x [] = x
first x (y ∷ ys) = y

abbrev others : {X : Type 0} → List X → List X
others [] = []
others (y ∷ ys) = ys

-- the same list after i, if there is an item at i
within_both : {X : Type 0} (xs ys : List X) (i : ℕ) → drop i xs ≡ drop i ys → i < length xs → i < length ys
within_both xs ys i e p =
    let same : length xs - i ≡ length ys - i = sym (length-drop i xs) ∙ ap length e ∙ length-drop i ys in
    omega (arith, p, same)

-- an item that was not changed yet
pub still_there : {A : Type 0} (old new : List A) (i : ℕ) (d c : A) → i < length old → drop i new ≡ drop i old → get_or new i d ≡ get_or old i c
still_there old new i d c within e =
    let both = sym (drop_more new i d (within_both old new i (sym e) within)) ∙ e ∙ drop_more old i c within in
    ap (first d) both

module _ {A X Y S E : Type 0} {places : A → List X} {frame : A → Y} {by : Writing S X E} {s : S} where
  pub none_written : {xs : List A} → WrittenTo places frame by 0 s xs xs s
  none_written = record { walk = write_none; rest = refl; after = refl }

-- the item at i: it is x, and y is left there
module _ {A X Y S E : Type 0} (places : A → List X) (frame : A → Y) (by : Writing S X E) (old new : List A) (i : ℕ) (d : A) {x : A} (is : get_or new i d ≡ x)
    (within : i < length old)
    {s u : S} (before : WrittenTo places frame by i s old new u) where
  within_new : i < length new
  within_new = within_both old new i (sym before.after) within

  -- what is at i and after it
  found : drop i old ≡ x ∷ drop (i + 1) new
  found = sym before.after ∙ drop_more new i d within_new ∙ ap (λ (y : A). y ∷ drop (i + 1) new) is

  old_is : old ≡ take i old ++ x ∷ drop (i + 1) new
  old_is = sym (take-append-drop i old) ∙ ap (λ (ys : List A). take i old ++ ys) found

  places_old : flat_map places old ≡ flat_map places (take i old) ++ (places x ++ flat_map places (drop (i + 1) new))
  places_old = ap (flat_map places) old_is ∙ flat_map-append places (take i old) (x ∷ drop (i + 1) new)

  pub may_item : MayWriteBy by s (flat_map places old) → MayWriteBy by u (places x)
  may_item p = may_left (places x) (flat_map places (drop (i + 1) new)) (may_after before.walk _ (subst (λ zs. MayWriteBy by s zs) places_old p))

  at_old : get_or old i x ∷ drop (i + 1) old ≡ x ∷ drop (i + 1) new
  at_old = sym (drop_more old i x within) ∙ found

  taken_old : take (i + 1) old ≡ take i old ++ x ∷ []
  taken_old = take_more old i x within ∙ ap (λ (y : A). take i old ++ y ∷ []) (ap (first x) at_old)

  taken_new : (y : A) → take (i + 1) (set new i y) ≡ take i new ++ y ∷ []
  taken_new y = take_more_set new i y within_new

  joined : {X : Type 0} (xs ys : List X) (p q : X) (zs : List X) → ys ≡ xs → q ≡ p → ys ++ q ∷ zs ≡ xs ++ p ∷ zs
  joined {X} xs ys p q zs e d = ap (λ (us : List X). us ++ q ∷ zs) e ∙ ap (λ (w : X). xs ++ w ∷ zs) d

  pub item_more : {y : A} {t : S} → WritesIn places frame by u x y (Ok tt) t → WrittenTo places frame by (i + 1) s old (set new i y) t
  item_more {y} {t} q = record {
    walk = write_at (sym (ap (flat_map places) taken_old ∙ at_end places (take i old) x))
        (sym (ap (flat_map places) (taken_new y) ∙ at_end places (take i new) y)) (write_on before.walk q.calls);
    rest = ap (map frame) (taken_new y) ∙ map-append frame (take i new) (y ∷ []) ∙ joined _ _ _ _ [] before.rest q.rest
        ∙ sym (ap (map frame) taken_old ∙ map-append frame (take i old) (x ∷ []));
    after = drop-set-lt (i + 1) new i y (omega arith) ∙ sym (ap others at_old);
  }

  pub item_stops : {y : A} {e : E} {t : S} → WritesIn places frame by u x y (Err e) t → WritesIn (flat_map places) (map frame) by s old (set new i y) (Err e) t
  item_stops {y} {e} {t} q =
      let split : set new i y ≡ take i new ++ y ∷ drop (i + 1) new =
      sym (take-append-drop i (set new i y)) ∙ ap (λ (ys : List A). ys ++ drop i (set new i y)) (take-set new i y)
      ∙ ap (λ (ys : List A). take i new ++ ys) (drop-set new i y within_new) in
      record {
        calls = write_at (sym places_old) (sym (ap (flat_map places) split ∙ flat_map-append places (take i new) (y ∷ drop (i + 1) new)))
            (write_on before.walk (write_stops (flat_map places (drop (i + 1) new)) q.calls));
        rest = ap (map frame) split ∙ map-append frame (take i new) (y ∷ drop (i + 1) new) ∙ joined _ _ _ _ (map frame (drop (i + 1) new)) before.rest q.rest
            ∙ sym (ap (map frame) old_is ∙ map-append frame (take i old) (x ∷ drop (i + 1) new));
      }

module _ {A X Y S E : Type 0} {places : A → List X} {frame : A → Y} {by : Writing S X E} {s u : S} {old new : List A} where
  pub all_written : (i : ℕ) → length old ≤ i → WrittenTo places frame by i s old new u → WritesIn (flat_map places) (map frame) by s old new (Ok tt) u
  all_written i h w =
      let old_all : take i old ≡ old = take_all i old h in
      let new_all : take i new ≡ new = sym (nothing_after (take i new)) ∙ ap (λ (ys : List A). take i new ++ ys) (sym (w.after ∙ drop_all i old h))
      ∙ take-append-drop i new in
      record {
        calls = write_at (ap (flat_map places) old_all) (ap (flat_map places) new_all) w.walk;
        rest = ap (map frame) (sym new_all) ∙ w.rest ∙ ap (map frame) old_all;
      }

-- if each item is a node
module _ {A X S : Type 0} (place : A → X) {may : S → X → Type 0} {goes : S → X → S → Type 0} {s : S} where
  pub may_places : (xs : List A) → MayWalk may goes s (map place xs) → MayWalk may goes s (flat_map (λ (a : A). place a ∷ []) xs)
  may_places xs p = subst (λ zs. MayWalk may goes s zs) (sym (flat_map_single place xs)) p

module _ {A X Y S E : Type 0} (place : A → X) {frame : A → Y} {by : Writing S X E} {s : S} where
  pub places_written : {old new : List A} {r : Result (Unit {0}) E} {t : S} → WritesIn (flat_map (λ (a : A). place a ∷ [])) (map frame) by s old new r t
      → WritesIn (map place) (map frame) by s old new r t
  places_written {old} {new} p = record { calls = write_at (flat_map_single place old) (flat_map_single place new) p.calls; rest = p.rest }

  -- only the calls
  pub calls_written : {old new : List A} {r : Result (Unit {0}) E} {t : S} → WritesIn (flat_map (λ (a : A). place a ∷ [])) (map frame) by s old new r t
      → WriteBy by s (map place old) (map place new) r t
  calls_written {old} {new} p = write_at (flat_map_single place old) (flat_map_single place new) p.calls
