-- One walk seen as another.
use Rattle.std.proofs.Common.{◌≡◌, List, [], ◌∷◌, Result, Ok, inl, inr, subst}
use Rattle.std.specs.Fn.{Mut}
use Rattle.starlark_tree.specs.Walks.{Goes, MayWalk, Visits, Walk, may_walk, visits, walk}

-- the same calls under another condition
module _ {S X : Type 0} (may also : S → X → Type 0) (goes other : S → X → S → Type 0) (asks : (s : S) (x : X) → may s x → also s x)
    (same : (s : S) (x : X) (t : S) → other s x t → goes s x t) where
  may_also : (s : S) (xs : List X) → may_walk may goes s xs → may_walk also other s xs
  may_also s [] p = tt
  may_also s (x ∷ xs) p = (asks s x p.0, λ t c. may_also t xs (p.1 t (same s x t c)))

module _ {S X : Type 0} {may also : S → X → Type 0} {goes other : S → X → S → Type 0} where
  pub may_as : {s : S} {xs : List X} → MayWalk may goes s xs → ((s : S) (x : X) → may s x → also s x) → ((s : S) (x : X) (t : S) → other s x t → goes s x t)
      → MayWalk also other s xs
  may_as {s} {xs} p asks same = record { each = may_also may also goes other asks same s xs p.each }

-- calls of a closure that cannot fail
module _ {F A X : Type 0} (E : Type 0) (seen : A → X) (g : Mut F (A × Unit {0}) (Unit {0})) where
  all_go : (f : F) (xs : List X) (f' : F) → walk {E = E} (Goes seen g) f xs (Ok tt) f' → visits seen g f xs f'
  all_go f [] f' p = p.1
  all_go f (x ∷ xs) f' (inl p) = let e = p.2 in absurd (cc)
  all_go f (x ∷ xs) f' (inr p) = (p.0, p.1.called, all_go p.0 xs f' p.2)

module _ {F A X E : Type 0} {seen : A → X} {g : Mut F (A × Unit {0}) (Unit {0})} where
  pub visits_of : {f : F} {xs : List X} {f' : F} → Walk {E = E} (Goes seen g) f xs (Ok tt) f' → Visits seen g f xs f'
  visits_of {f} {xs} {f'} p = record { calls = all_go E seen g f xs f' p.calls }

-- the same walk over an equal list
module _ {S X E : Type 0} {call : S → X → Result (Unit {0}) E → S → Type 0} where
  pub walk_at : {s : S} {xs ys : List X} {r : Result (Unit {0}) E} {t : S} → xs ≡ ys → Walk call s xs r t → Walk call s ys r t
  walk_at {s} {r = r} {t = t} e p = subst (λ zs. Walk call s zs r t) e p

module _ {S X : Type 0} {may : S → X → Type 0} {goes : S → X → S → Type 0} where
  pub may_at : {s : S} {xs ys : List X} → xs ≡ ys → MayWalk may goes s xs → MayWalk may goes s ys
  may_at {s} e p = subst (λ zs. MayWalk may goes s zs) e p
