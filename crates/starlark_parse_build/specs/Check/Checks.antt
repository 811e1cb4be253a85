-- The answer of a check: the fault, or that there is none.
use Rattle.std.specs.Prelude.{◌≡◌, ⊤, Option, Some, None, Result, Ok, Err}
use Rattle.starlark_spec.specs.Faults.{Fault}
use Rattle.starlark_spec.specs.Answers.{Answer}
use Rattle.starlark_spec.specs.Answers.Answer.{memory, broken_rule}
use Rattle.starlark_spec.specs.Refusals.{refused}
use Rattle.starlark_spec.specs.declared.refusal.Refusal.{Refusal}

-- An answer names the fault. Out of memory says nothing.
abbrev pub NamesFault : Option Fault → Answer → Type 0
NamesFault f memory = ⊤
NamesFault f (broken_rule fault) = f ≡ Some fault
NamesFault f _ = ⊥

-- a refusal names the fault
abbrev pub Names : Option Fault → Refusal → Type 0
Names f e = NamesFault f (refused e)

-- A check returns the fault, or that there is none.
abbrev pub Finds : {A : Type 0} → Option Fault → Result A Refusal → Type 0
Finds f (Ok x) = f ≡ None
Finds f (Err e) = Names f e
