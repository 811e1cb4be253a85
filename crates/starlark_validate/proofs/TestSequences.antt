-- Tests one after another.
use Rattle.std.proofs.Common.{◌≡◌, ◌==◌, true, arith, List, [], ◌∷◌, ◌++◌, Option, Some, None, Result, Ok, Err, length, refl, sym, ap, subst}
use Rattle.std.proofs.lemmas.Bool.{eqb-true}
use Rattle.std.specs.Result.{IsErrAnd}
use Rattle.starlark_lexer.specs.Places.{File}
use Rattle.std.specs.Prelude.{option_to_list}
use Rattle.starlark_spec.specs.Faults.{Fault}
use Rattle.starlark_checks.specs.Faults.{unless_fault, RefusesOutcome, RefusesOutcome.by_fault, RefusesOutcome.by_memory}
use Rattle.starlark_checks.specs.Refusals.{Refusal}
use Rattle.starlark_validate.specs.Faults.{first}
use Rattle.starlark_validate.specs.TestResults.{Tested, faultless, at_fault, no_memory}

first_before : (fs gs : List Fault) (f : Fault) → first fs ≡ Some f → first (fs ++ gs) ≡ Some f
first_before [] gs f h = cc
first_before (g ∷ fs) gs f h = h

same_fault : {A : Type 0} {g f : Fault} → ◌≡◌ {A = Result A Fault} (Err g) (Err f) → Some g ≡ Some f
same_fault e = cc

module _ {file : File} where
  -- if the first has no fault, the result is that of the second
  pub then : {fs gs : List Fault} {r : Result (Unit {0}) Refusal} → Tested file fs (Ok tt) → Tested file gs r → Tested file (fs ++ gs) r
  then {gs = gs} {r = r} (faultless is none) h = subst (λ fs. Tested file (fs ++ gs) r) (sym none) h
  then (at_fault f is h) g = absurd (cc)
  then (no_memory is) g = absurd (cc)

  -- what refuses the first refuses both
  pub stops : {fs : List Fault} (gs : List Fault) {e : Refusal} → Tested file fs (Err e) → Tested file (fs ++ gs) (Err e)
  stops gs (faultless is none) = absurd (cc)
  stops {fs = fs} gs (at_fault f is h) = at_fault f is (first_before fs gs f h)
  stops gs (no_memory is) = no_memory is

  -- the same faults
  pub of_faults : {fs gs : List Fault} {r : Result (Unit {0}) Refusal} → fs ≡ gs → Tested file fs r → Tested file gs r
  of_faults {r = r} e h = subst (λ fs. Tested file fs r) e h

  pub nothing : Tested file [] (Ok tt)
  nothing = faultless refl refl

  -- what refuses for the first fault, if there is one
  pub refused_so : {A : Type 0} (o : Option Fault) (x : A) {e : Refusal} → RefusesOutcome file (unless_fault o x) e → Tested file (option_to_list o) (Err e)
  refused_so None x (by_fault f is names) = absurd (cc)
  refused_so (Some g) x (by_fault f is names) = at_fault f (ap Err names) (same_fault is)
  refused_so o x (by_memory is) = no_memory (ap Err is)

-- the result of `?`
pub same_err : {V E : Type 0} (r : Result V E) (e : E) → IsErrAnd r (λ y. y ≡ e) → r ≡ Err e
same_err (Ok v) e h = absurd h
same_err (Err y) e h = ap Err h

pub none_there : {X : Type 0} (xs : List X) → true ≡ (length xs == 0) → xs ≡ []
none_there [] h = refl
none_there (x ∷ xs) h = absurd (omega (arith, eqb-true (length (x ∷ xs)) 0 (sym h)))
