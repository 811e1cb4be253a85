-- Clauses on results.
use Rattle.std.proofs.Common.{◌≡◌, ◌∙◌, Result, Ok, Err, IfOk, OnErr}

pub on_err : {T E P : Type 0} (r : Result T E) → P → OnErr r P
on_err (Ok x) h = tt
on_err (Err e) h = h

-- what holds for a value holds for it by another name
pub along : {T E A : Type 0} (f : T → A) (r : Result T E) (a b : A) → a ≡ b → IfOk r (λ x. f x ≡ a) → IfOk r (λ x. f x ≡ b)
along f (Ok x) a b same is = is ∙ same
along f (Err e) a b same is = tt
