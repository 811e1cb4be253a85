-- Mutable walks, one after another.
use Rattle.std.proofs.Common.{◌≡◌, List, [], ◌∷◌, ◌++◌, length, Result, Ok, Err, inl, inr, refl, sym, ap, ◌∙◌, subst, arith}
use Rattle.std.specs.Fn.{Mut}
use denote.Ref.{MutBor}
use Rattle.starlark_tree.specs.Walks.{GoesWriting, MayWalk, Write, Writes, WritesIn, Writing, may_walk, write, writes}

module _ {S X E : Type 0} (may : S → X → Type 0) (call : S → X → X → Result (Unit {0}) E → S → Type 0) where
  right : (s : S) (xs xs' : List X) (u : S) (ys : List X) → may_walk may (λ s x t. (y : X) × call s x y (Ok tt) t) s (xs ++ ys) → write call s xs xs' (Ok tt) u
      → may_walk may (λ s x t. (y : X) × call s x y (Ok tt) t) u ys
  right s [] [] u ys p q = subst (λ (z : S). may_walk may (λ s x t. (y : X) × call s x y (Ok tt) t) z ys) (sym q.1) p
  right s [] (y ∷ ys') u ys p q = absurd q
  right s (x ∷ xs) [] u ys p q = absurd q
  right s (x ∷ xs) (y ∷ xs') u ys p (inl q) = let e = q.2 in absurd (cc)
  right s (x ∷ xs) (y ∷ xs') u ys p (inr q) = right q.0 xs xs' u ys (p.1 q.0 (y, q.1)) q.2

module _ {S X E : Type 0} (call : S → X → X → Result (Unit {0}) E → S → Type 0) where
  append : (s : S) (xs xs' : List X) (u : S) (ys ys' : List X) (r : Result (Unit {0}) E) (t : S) → write call s xs xs' (Ok tt) u → write call u ys ys' r t
      → write call s (xs ++ ys) (xs' ++ ys') r t
  append s [] [] u ys ys' r t p q = subst (λ (z : S). write call z ys ys' r t) p.1 q
  append s [] (y ∷ xs') u ys ys' r t p q = absurd p
  append s (x ∷ xs) [] u ys ys' r t p q = absurd p
  append s (x ∷ xs) (y ∷ xs') u ys ys' r t (inl p) q = let e = p.2 in absurd (cc)
  append s (x ∷ xs) (y ∷ xs') u ys ys' r t (inr p) q = inr (p.0, p.1, append p.0 xs xs' u ys ys' r t p.2 q)

  stops : (s : S) (xs xs' : List X) (ys : List X) (e : E) (t : S) → write call s xs xs' (Err e) t → write call s (xs ++ ys) (xs' ++ ys) (Err e) t
  stops s [] [] ys e t p = let q = p.0 in absurd (cc)
  stops s [] (y ∷ xs') ys e t p = absurd p
  stops s (x ∷ xs) [] ys e t p = absurd p
  stops s (x ∷ xs) (y ∷ xs') ys e t (inl p) = inl (p.0, p.1, p.2, ap (λ (zs : List X). zs ++ ys) p.3)
  stops s (x ∷ xs) (y ∷ xs') ys e t (inr p) = inr (p.0, p.1, stops p.0 xs xs' ys e t p.2)

  one : (s : S) (x y : X) (r : Result (Unit {0}) E) (t : S) → call s x y r t → write call s (x ∷ []) (y ∷ []) r t
  one s x y (Ok tt) t p = inr (t, p, (refl, refl))
  one s x y (Err e) t p = inl (e, p, refl, refl)

  same_length : (s : S) (xs ys : List X) (r : Result (Unit {0}) E) (t : S) → write call s xs ys r t → length ys ≡ length xs
  same_length s [] [] r t p = refl
  same_length s [] (y ∷ ys) r t p = absurd p
  same_length s (x ∷ xs) [] r t p = absurd p
  same_length s (x ∷ xs) (y ∷ ys) r t (inl p) = ap (λ (zs : List X). length (y ∷ zs)) p.3
  same_length s (x ∷ xs) (y ∷ ys) r t (inr p) = let e = same_length p.0 xs ys r t p.2 in omega (arith, e)

module _ {S X E : Type 0} {may : S → X → Type 0} {call : S → X → X → Result (Unit {0}) E → S → Type 0} {s u : S} {xs xs' : List X} where
  pub may_after : Write call s xs xs' (Ok tt) u → (ys : List X) → MayWalk may (λ s x t. (y : X) × call s x y (Ok tt) t) s (xs ++ ys)
      → MayWalk may (λ s x t. (y : X) × call s x y (Ok tt) t) u ys
  may_after q ys p = record { each = right may call s xs xs' u ys p.each q.calls }

module _ {S X E : Type 0} {call : S → X → X → Result (Unit {0}) E → S → Type 0} where
  pub write_none : {s : S} → Write call s [] [] (Ok tt) s
  write_none = record { calls = (refl, refl) }

  pub write_one : {s : S} {x y : X} {r : Result (Unit {0}) E} {t : S} → call s x y r t → Write call s (x ∷ []) (y ∷ []) r t
  write_one {s} {x} {y} {r} {t} p = record { calls = one call s x y r t p }

  pub write_on : {s u : S} {xs xs' ys ys' : List X} {r : Result (Unit {0}) E} {t : S} → Write call s xs xs' (Ok tt) u → Write call u ys ys' r t
      → Write call s (xs ++ ys) (xs' ++ ys') r t
  write_on {s} {u} {xs} {xs'} {ys} {ys'} {r} {t} p q = record { calls = append call s xs xs' u ys ys' r t p.calls q.calls }

  pub write_stops : {s : S} {xs xs' : List X} (ys : List X) {e : E} {t : S} → Write call s xs xs' (Err e) t → Write call s (xs ++ ys) (xs' ++ ys) (Err e) t
  write_stops {s} {xs} {xs'} ys {e} {t} p = record { calls = stops call s xs xs' ys e t p.calls }

  pub write_length : {s : S} {xs ys : List X} {r : Result (Unit {0}) E} {t : S} → Write call s xs ys r t → length ys ≡ length xs
  write_length {s} {xs} {ys} {r} {t} p = same_length call s xs ys r t p.calls

  pub write_at : {s : S} {xs ys xs' ys' : List X} {r : Result (Unit {0}) E} {t : S} → xs ≡ xs' → ys ≡ ys' → Write call s xs ys r t → Write call s xs' ys' r t
  write_at {s} {xs} {ys} {xs'} {ys'} {r} {t} e d p = subst (λ zs. Write call s xs' zs r t) d (subst (λ zs. Write call s zs ys r t) e p)

pub both_lists : {X : Type 0} {xs xs' ys ys' : List X} → xs ≡ xs' → ys ≡ ys' → xs ++ ys ≡ xs' ++ ys'
both_lists {X} {xs' = xs'} {ys = ys} p q = ap (λ (zs : List X). zs ++ ys) p ∙ ap (λ (zs : List X). xs' ++ zs) q

module _ {N X Y S E : Type 0} {places : N → List X} {frame : N → Y} {by : Writing S X E} where
  pub written_from : {s : S} {old found new : N} {r : Result (Unit {0}) E} {t : S} → old ≡ found → WritesIn places frame by s found new r t
      → WritesIn places frame by s old new r t
  written_from {s} {new = new} {r = r} {t = t} e p = subst (λ n. WritesIn places frame by s n new r t) (sym e) p

-- calls of a closure that cannot fail
module _ {F A X : Type 0} (E : Type 0) (seen : A → X) (g : Mut F (MutBor A × Unit {0}) (Unit {0} × (MutBor A × Unit {0}))) where
  all_go : (f : F) (xs ys : List X) (f' : F) → write {E = E} (GoesWriting seen g) f xs ys (Ok tt) f' → writes seen g f xs ys f'
  all_go f [] [] f' p = p.1
  all_go f [] (y ∷ ys) f' p = absurd p
  all_go f (x ∷ xs) [] f' p = absurd p
  all_go f (x ∷ xs) (y ∷ ys) f' (inl p) = let e = p.2 in absurd (cc)
  all_go f (x ∷ xs) (y ∷ ys) f' (inr p) = (p.0, p.1.called, all_go p.0 xs ys f' p.2)

module _ {F A X E : Type 0} {seen : A → X} {g : Mut F (MutBor A × Unit {0}) (Unit {0} × (MutBor A × Unit {0}))} where
  pub writes_of : {f : F} {xs ys : List X} {f' : F} → Write {E = E} (GoesWriting seen g) f xs ys (Ok tt) f' → Writes seen g f xs ys f'
  writes_of {f} {xs} {ys} {f'} p = record { calls = all_go E seen g f xs ys f' p.calls }
