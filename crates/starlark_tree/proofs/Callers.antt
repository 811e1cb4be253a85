-- For the callers of walks: closures that may always be called, and closures that collect.
use Rattle.std.proofs.Common.{◌≡◌, List, [], ◌∷◌, ◌++◌, Result, Ok, inl, inr, sym, ap, ◌∙◌, append_assoc}
use Rattle.std.specs.List.{flat_map}
use Rattle.std.proofs.lemmas.List.{append-nil}
use Rattle.starlark_tree.specs.Walks.{MayWalk, Walk, may_walk, walk}

module _ {S X : Type 0} (may : S → X → Type 0) (goes : S → X → S → Type 0) (always : (s : S) (x : X) → may s x) where
  each : (s : S) (xs : List X) → may_walk may goes s xs
  each s [] = tt
  each s (x ∷ xs) = (always s x, λ t c. each t xs)

module _ {S X : Type 0} {may : S → X → Type 0} {goes : S → X → S → Type 0} where
  pub may_always : ((s : S) (x : X) → may s x) → (s : S) (xs : List X) → MayWalk may goes s xs
  may_always always s xs = record { each = each may goes always s xs }

-- a closure that collects, if each call keeps what it refers to
module _ {S X E : Type 0} (call : S → X → Result (Unit {0}) E → S → Type 0) where
  collects : {V R : Type 0} (out : S → List V) (refers : S → R) (added : X → List V)
      → ((s : S) (x : X) (t : S) → call s x (Ok tt) t → (out t ≡ out s ++ added x) × (refers t ≡ refers s))
      → (s : S) (xs : List X) (t : S) → walk call s xs (Ok tt) t → (out t ≡ out s ++ flat_map added xs) × (refers t ≡ refers s)
  collects out refers added one s [] t p = (ap out p.1 ∙ sym (append-nil (out s)), ap refers p.1)
  collects out refers added one s (x ∷ xs) t (inl p) = let e = p.2 in absurd (cc)
  collects out refers added one s (x ∷ xs) t (inr p) =
      let first = one s x p.0 p.1 in
      let rest = collects out refers added one p.0 xs t p.2 in
      (rest.0 ∙ ap (λ ys. ys ++ flat_map added xs) first.0 ∙ append_assoc (out s) (added x) (flat_map added xs), rest.1 ∙ first.1)

module _ {S X E : Type 0} {call : S → X → Result (Unit {0}) E → S → Type 0} where
  pub collected : {s : S} {xs : List X} {t : S} → Walk call s xs (Ok tt) t → {V R : Type 0} (out : S → List V) (refers : S → R) (added : X → List V)
      → ((s : S) (x : X) (t : S) → call s x (Ok tt) t → (out t ≡ out s ++ added x) × (refers t ≡ refers s))
      → (out t ≡ out s ++ flat_map added xs) × (refers t ≡ refers s)
  collected {s} {xs} {t} p out refers added one = collects call out refers added one s xs t p.calls
