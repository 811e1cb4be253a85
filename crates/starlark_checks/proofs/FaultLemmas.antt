-- The first fault of a list in two parts.
use Rattle.std.proofs.Common.{◌≡◌, List as Seq, [], ◌∷◌, ◌++◌, Option, Some, None, append_assoc, append-nil, refl, ap, sym, ◌∙◌}
use Rattle.std.specs.Option.{option_or}
use Rattle.starlark_spec.specs.Faults.{Fault}
use Rattle.starlark_checks.specs.Faults.{first_fault}

or_assoc : {A : Type 0} (a b c : Option A) → option_or a (option_or b c) ≡ option_or (option_or a b) c
or_assoc None b c = refl
or_assoc (Some x) b c = refl

module _ {A : Type 0} (f : Seq A → A → Option Fault) where
  pub first_fault-append : (before xs ys : Seq A) → first_fault f before (xs ++ ys) ≡ option_or (first_fault f before xs) (first_fault f (before ++ xs) ys)
  first_fault-append before [] ys = ap (λ b. first_fault f b ys) (sym (append-nil before))
  first_fault-append before (x ∷ xs) ys =
      ap (option_or (f before x)) (first_fault-append (before ++ x ∷ []) xs ys)
      ∙ ap (λ b. option_or (f before x) (option_or (first_fault f (before ++ x ∷ []) xs) (first_fault f b ys))) (append_assoc before (x ∷ []) xs)
      ∙ or_assoc (f before x) (first_fault f (before ++ x ∷ []) xs) (first_fault f (before ++ (x ∷ xs)) ys)

  -- after entries without fault
  pub fault_after : (before xs ys : Seq A) → first_fault f before xs ≡ None → first_fault f before (xs ++ ys) ≡ first_fault f (before ++ xs) ys
  fault_after before xs ys none = first_fault-append before xs ys ∙ ap (λ r. option_or r (first_fault f (before ++ xs) ys)) none
