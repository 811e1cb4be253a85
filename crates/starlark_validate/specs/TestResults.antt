-- The result of a test of faults.
use Rattle.std.specs.Prelude.{◌≡◌, List as Seq, [], Some, Result, Ok, Err}
use Rattle.starlark_lexer.specs.Places.{File}
use Rattle.starlark_spec.specs.Faults.{Fault}
use Rattle.starlark_checks.specs.Faults.{refusal_of}
use Rattle.starlark_checks.specs.Refusals.{Refusal, out_of_memory}
use Rattle.starlark_validate.specs.Faults.{first}

-- It returns that there are none, or the first of them, or that memory ran out.
pub data Tested (file : File) (faults : Seq Fault) (answer : Result (Unit {0}) Refusal) : Type 0 where
  faultless : answer ≡ Ok tt → faults ≡ [] → Tested file faults answer
  at_fault : (f : Fault) → answer ≡ Err (refusal_of file f) → first faults ≡ Some f → Tested file faults answer
  no_memory : answer ≡ Err out_of_memory → Tested file faults answer
