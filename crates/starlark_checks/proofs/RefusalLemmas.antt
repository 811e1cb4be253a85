-- Refusals of an outcome that another one makes.
use Rattle.std.proofs.Common.{◌≡◌, ◌⊎◌, inl, inr, Result, Ok, Err, IfErr, IfOk, IsOk, ap, refl}
use Rattle.starlark_lexer.specs.Places.{File}
use Rattle.starlark_lexer.specs.Tokens.{fault_of}
use Rattle.starlark_lexer.specs.declared.token.LexerError.{LexerError}
use Rattle.starlark_spec.specs.Answers.Answer.{lexer}
use Rattle.starlark_spec.specs.Faults.{Fault}
use Rattle.starlark_checks.specs.Faults.{Names, RefusesOutcome, RefusesOutcome.by_fault, RefusesOutcome.by_memory, refusal_of}
use Rattle.starlark_checks.specs.Kinds.{Lexer}
use Rattle.starlark_checks.specs.Refusals.{Refusal, in_file, out_of_memory}
use Rattle.starlark_spec.specs.Targets.{map_ok, and_then}

-- what refuses the parts refuses what is made of them
pub refuses_made : {A B : Type 0} (g : A → B) {file : File} {outcome : Result A Fault} {refusal : Refusal}
    → RefusesOutcome file outcome refusal → RefusesOutcome file (map_ok g outcome) refusal
refuses_made g (by_fault f is names) = by_fault f (ap (map_ok g) is) names
refuses_made g (by_memory is) = by_memory is

-- equal outcomes are refused alike
pub refuses_same : {A B : Type 0} {file : File} {refusal : Refusal} (one : Result A Fault) (other : Result B Fault)
    → ((f : Fault) → one ≡ Err f → other ≡ Err f) → RefusesOutcome file one refusal → RefusesOutcome file other refusal
refuses_same one other same (by_fault f is names) = by_fault f (same f is) names
refuses_same one other same (by_memory is) = by_memory is

-- what refuses a value refuses what is made of it
pub refuses_first : {A B : Type 0} {file : File} {refusal : Refusal} (one : Result A Fault) (next : A → Result B Fault)
    → RefusesOutcome file one refusal → RefusesOutcome file (and_then one next) refusal
refuses_first one next refuses = refuses_same one (and_then one next) (λ f is. ap (λ r. and_then r next) is) refuses

-- the error of a fault, or out of memory
pub refused_by : {X : Type 0} {file : File} {refusal : Refusal} {f : Fault} (whole : Result X Fault) → whole ≡ Err f → (refusal ≡ refusal_of file f)
    ⊎ (refusal ≡ out_of_memory) → RefusesOutcome file whole refusal
refused_by whole is names = elim names [ inl fault ↦ by_fault _ is fault | inr memory ↦ by_memory memory ]

-- what is not to be refused is only refused as out of memory
pub memory_alone : {A : Type 0} {file : File} {refusal : Refusal} (outcome : Result A Fault) → RefusesOutcome file outcome refusal → IsOk outcome
    → refusal ≡ out_of_memory
memory_alone (Ok x) (by_fault f is names) fine = absurd (cc)
memory_alone (Ok x) (by_memory is) fine = is
memory_alone (Err e) refuses fine = absurd (cc)

pub only_memory : {A B : Type 0} (file : File) (outcome : Result A Fault) (r : Result B Refusal) → IfErr r (λ e. RefusesOutcome file outcome e)
    → IfErr r (λ e. IsOk outcome → e ≡ out_of_memory)
only_memory file outcome (Ok x) refuses = tt
only_memory file outcome (Err e) refuses = memory_alone outcome refuses

-- the error of the lexer names the answer that is its fault
pub lexer_named : {E : Type 0} (file : File) (x : LexerError) (r : Result Refusal E) → IfOk r (λ e. e ≡ in_file (Lexer x) file x.span)
    → IfOk r (Names file (lexer (fault_of x)))
lexer_named file x (Ok e) is = (x, refl, is)
lexer_named file x (Err e) is = tt
