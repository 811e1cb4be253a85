-- The result of `any`.
use Rattle.std.proofs.Common.{◌≡◌, ℕ, ◌<◌, Bool, true, false, List, [], ◌∷◌, length, map, get_or, Any, Contains, MatchBool, ◌↔◌, IsTrue, refl, sym, ap, ◌∙◌}
use Rattle.std.proofs.Common.{subst, arith}
use Rattle.std.proofs.lemmas.Bool.{false≢true}
use Rattle.std.proofs.lemmas.List.{length-map, get_or-map, get_or_default}
use Rattle.std.specs.List.{HoldsAt, AllWithin}

module _ {A : Type 0} (P : A → Type 0) where
  any_at : (xs : List A) (k : ℕ) → k < length xs → HoldsAt P xs k → Any P xs
  any_at [] k within h = absurd (omega arith)
  any_at (x ∷ xs) k within h = (k, get_or (x ∷ xs) k x, within, get_or_default (x ∷ xs) k _ x within, h x)

  -- whether some element has P, if each was found to have it or not
  pub any_by_cases : (r : Bool) (xs : List A) → MatchBool r ((k : ℕ) × (k < length xs) × HoldsAt P xs k) (AllWithin (λ x. P x → ⊥) xs 0 (length xs))
      → IsTrue r ↔ (Any P xs)
  any_by_cases true xs h = (λ _. any_at xs h.0 h.1 h.2, λ _. refl)
  any_by_cases false xs h = (λ e. absurd (false≢true e), λ w. absurd (h w.0 w.1 (omega arith) w.2 (subst P (sym w.3) w.4)))

-- among what a function makes of the elements
module _ {A B : Type 0} (f : A → B) (xs : List A) where
  pub any_made : (P : B → Type 0) → Any (λ x. P (f x)) xs → Any P (map f xs)
  any_made P (k, x, within, is, h) = (k, f x, rw (length-map xs f) within, get_or-map f xs k x (f x) within ∙ ap f is, h)

  pub any_of_made : (P : B → Type 0) → Any P (map f xs) → Any (λ x. P (f x)) xs
  any_of_made P (k, y, within, is, h) =
      let inside : k < length xs = rw (← length-map xs f) within in
      any_at (λ x. P (f x)) xs k inside (λ d. subst P (sym is ∙ get_or-map f xs k d y inside) h)

  pub contains_made : (y : B) → Any (λ x. f x ≡ y) xs → Contains (map f xs) y
  contains_made y (k, x, within, is, h) = (k, rw (length-map xs f) within, get_or-map f xs k x y within ∙ ap f is ∙ h)

  pub made_contains : (y : B) → Contains (map f xs) y → Any (λ x. f x ≡ y) xs
  made_contains y (k, within, is) =
      let inside : k < length xs = rw (← length-map xs f) within in
      any_at (λ x. f x ≡ y) xs k inside (λ d. sym (get_or-map f xs k d y inside) ∙ is)

-- a test that decides
pub found : {P : Type 0} → (IsTrue true ↔ P) → P
found h = h.0 refl

pub not_found : {P : Type 0} → (IsTrue false ↔ P) → P → ⊥
not_found h p = false≢true (h.1 p)
