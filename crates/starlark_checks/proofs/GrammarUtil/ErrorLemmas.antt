-- The errors of refusals that name a fault.
use Rattle.std.proofs.Common.{◌≡◌, Some, Result, Ok, Err}
use Rattle.starlark_lexer.specs.Places.{File}
use Rattle.starlark_spec.specs.Answers.{Answer}
use Rattle.starlark_spec.specs.Answers.Answer.{module_of, memory, lexer, unexpected_token, unexpected_end, broken_rule}
use Rattle.starlark_spec.specs.Faults.{Fault}
use Rattle.starlark_spec.specs.Machine.Faults.{fault_of}
use Rattle.starlark_checks.specs.Faults.{Names, RefusesOutcome, RefusesOutcome.by_fault, RefusesOutcome.by_memory}
use Rattle.starlark_checks.specs.Refusals.{Refusal}
use Rattle.starlark_parse_build.specs.Check.Checks.{NamesFault}

same_fault : {A : Type 0} (outcome : Result A Fault) (f : Fault) → fault_of outcome ≡ Some f → outcome ≡ Err f
same_fault (Ok x) f is = absurd (cc)
same_fault (Err e) f is = cc

-- the error that names an answer refuses the outcome whose fault the answer names
pub refuses_named : {A : Type 0} (file : File) (outcome : Result A Fault) (answer : Answer) (e : Refusal) → NamesFault (fault_of outcome) answer
    → Names file answer e → RefusesOutcome file outcome e
refuses_named file outcome memory e finds names = by_memory names
refuses_named file outcome (broken_rule f) e finds names = by_fault f (same_fault outcome f finds) names
refuses_named file outcome (module_of s) e finds names = absurd finds
refuses_named file outcome (lexer fault) e finds names = absurd finds
refuses_named file outcome (unexpected_token span) e finds names = absurd finds
refuses_named file outcome (unexpected_end span) e finds names = absurd finds
