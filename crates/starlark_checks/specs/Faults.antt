-- The faults of calls and lists, and the errors of a file that name a fault or an answer of the parser.
use Rattle.std.specs.Prelude.{◌≡◌, Bool, List as Seq, [], ◌∷◌, ◌++◌, Option, Some, None, if◌then◌else◌, Result, Ok, Err}
use Rattle.std.specs.Option.{option_or}
use Rattle.starlark_lexer.specs.Places.{File}
use Rattle.starlark_lexer.specs.Tokens.{Span, fault_of}
use Rattle.starlark_lexer.specs.declared.token.LexerError.{LexerError}
use Rattle.starlark_spec.specs.Faults.{Fault, rule_fault, Call}
use Rattle.starlark_spec.specs.Answers.{Answer}
use Rattle.starlark_spec.specs.Answers.Answer.{module_of, memory, lexer, unexpected_token, unexpected_end, broken_rule}
use Rattle.starlark_spec.specs.declared.error.CallError.{CallError}
use Rattle.starlark_checks.specs.Kinds.{Broken, Lexer, UnexpectedToken, UnexpectedEnd}
use Rattle.starlark_checks.specs.Refusals.{Refusal, at, in_file, out_of_memory}

abbrev pub miscalled : CallError → Span → Fault
miscalled error span = rule_fault (Call error) span

abbrev pub fault_if : Bool → Fault → Option Fault
fault_if broken f = if broken then Some f else None

-- the first fault from the left, if each entry's fault depends on the entries before it
abbrev pub first_fault : {A : Type 0} → (Seq A → A → Option Fault) → Seq A → Seq A → Option Fault
first_fault fault_after before [] = None
first_fault fault_after before (x ∷ xs) = option_or (fault_after before x) (first_fault fault_after (before ++ x ∷ []) xs)

abbrev pub unless_fault : {A : Type 0} → Option Fault → A → Result A Fault
unless_fault None x = Ok x
unless_fault (Some f) x = Err f

abbrev pub refusal_of : File → Fault → Refusal
refusal_of file f = at (Broken f.rule) (record { file = file; span = f.span })

-- what is refused if this is the outcome: by its fault, or out of memory
pub data RefusesOutcome {A : Type 0} (file : File) (outcome : Result A Fault) (refusal : Refusal) : Type 0 where
  by_fault : (f : Fault) → outcome ≡ Err f → refusal ≡ refusal_of file f → RefusesOutcome file outcome refusal
  by_memory : refusal ≡ out_of_memory → RefusesOutcome file outcome refusal

-- an answer that is not a module, as an error in the file
abbrev pub Names : File → Answer → Refusal → Type 0
Names file (module_of s) e = ⊥
Names file memory e = e ≡ out_of_memory
Names file (lexer fault) e = (x : LexerError) × (fault_of x ≡ fault) × (e ≡ in_file (Lexer x) file x.span)
Names file (unexpected_token span) e = e ≡ at UnexpectedToken (record { file = file; span = span })
Names file (unexpected_end span) e = e ≡ at UnexpectedEnd (record { file = file; span = span })
Names file (broken_rule fault) e = e ≡ refusal_of file fault
