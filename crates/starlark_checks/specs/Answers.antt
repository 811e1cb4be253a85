-- The answer of a call: the value of its outcome, or what refuses that outcome.
use Rattle.std.specs.Prelude.{◌≡◌, Result, Ok, IfOk, IfErr}
use Rattle.starlark_lexer.specs.Places.{File}
use Rattle.starlark_spec.specs.Faults.{Fault}
use Rattle.starlark_checks.specs.Faults.{RefusesOutcome}
use Rattle.starlark_checks.specs.Refusals.{Refusal}
use Rattle.starlark_spec.specs.Targets.{map_ok, both}

pub record AnswersOutcome {A X : Type 0} (file : File) (outcome : Result A Fault) (seen : X → A) (answer : Result X Refusal) : Type 0 where
  pub ok : IfOk answer (λ x. outcome ≡ Ok (seen x))
  pub err : IfErr answer (λ e. RefusesOutcome file outcome e)

-- Whatever the answer for the part, the answer for the whole is made of it.
abbrev pub AnswersMade : {A B X Y : Type 0} → (A → B) → (X → A) → Result X Refusal → (Y → B) → Result Y Refusal → Type 0
AnswersMade {A} made seen part seen_whole whole =
    (file : File) (outcome : Result A Fault) → AnswersOutcome file outcome seen part → AnswersOutcome file (map_ok made outcome) seen_whole whole

-- Whatever the answers for the two parts, the answer for the whole is made of them.
abbrev pub AnswersBoth : {A B X Y : Type 0} → (A → A → B) → (X → A) → Result X Refusal → Result X Refusal → (Y → B) → Result Y Refusal → Type 0
AnswersBoth {A} made seen first second seen_whole whole =
    (file : File) (one other : Result A Fault) → AnswersOutcome file one seen first → AnswersOutcome file other seen second
    → AnswersOutcome file (both made one other) seen_whole whole
