-- The machine's answers for items.
use Rattle.std.specs.Prelude.{◌≡◌, ℕ, List, [], ◌++◌, Some, None}
use Rattle.starlark_lexer.specs.Tokens.{from_to, Lexeme}
use Rattle.starlark_lexer.specs.declared.dialect.DialectTypes.{DialectTypes}
use Rattle.starlark_spec.specs.Faults.{Fault}
use Rattle.starlark_spec.specs.Items.{Items, Ending, at_end, fails, out_of_memory}
use Rattle.starlark_spec.specs.Grammar.{Derivation, Derives}
use Rattle.starlark_spec.specs.Grammar.Nonterminal.{Module}
use Rattle.starlark_spec.specs.Trees.{module_tree}
use Rattle.starlark_spec.specs.Program.{BeginsProgram}
use Rattle.starlark_spec.specs.Answers.{Answer, Answers, end_of}
use Rattle.starlark_spec.specs.Answers.Answer.{module_of, memory, lexer, unexpected_token, unexpected_end, broken_rule}
use Rattle.starlark_spec.specs.Machine.States.{State}
use Rattle.starlark_spec.specs.Machine.Sight.{Sight, token, ending, sight, look}
use Rattle.starlark_spec.specs.Machine.Moves.{Fail, move}
use Rattle.starlark_spec.specs.Machine.Faults.{fault_at}
use Rattle.starlark_spec.specs.Machine.Steps.{start, module_done, config, Reaches, Clean}

-- the answer for an item with which nothing can continue
abbrev pub stop_in : Ending → ℕ → Answer
stop_in at_end end = unexpected_end (from_to end end)
stop_in (fails fault) end = lexer fault
stop_in out_of_memory end = memory

abbrev pub stop_of : Sight → ℕ → Answer
stop_of (token x) end = unexpected_token x.span
stop_of (ending z) end = stop_in z end

-- the machine has reached a state over the items, and no rule was broken on the way
abbrev pub Comes : DialectTypes → Items → State Module → List Lexeme → Type 0
Comes types items s rest = Clean types items.ending (config start items.tokens) (config s rest)

-- its answers: the tree if it is done at the end, the item at which it gets stuck, or a broken rule
pub data Answered (types : DialectTypes) (items : Items) : Answer → Type 0 where
  finished : (d : Derivation Module) → items.ending ≡ at_end → Comes types items (module_done d) [] → Answered types items (module_of (module_tree d))
  stopped : (s : State Module) (before rest : List Lexeme) → items.tokens ≡ before ++ rest → Comes types items s rest
      → fault_at types s (look items.ending rest) ≡ None
      → move s (look items.ending rest) ≡ Fail → Answered types items (stop_of (sight items.ending rest) (end_of before))
  refuses : (s : State Module) (rest : List Lexeme) (fault : Fault) → Comes types items s rest → fault_at types s (look items.ending rest) ≡ Some fault
      → Answered types items (broken_rule fault)

-- each answer of the machine is correct
abbrev pub EachAnswerIsRight : Type 0
EachAnswerIsRight = (types : DialectTypes) (items : Items) (answer : Answer) → Answered types items answer → Answers types items answer

-- each derivation is a run over its tokens
abbrev pub EachDerivationIsRead : Type 0
EachDerivationIsRead =
    (tokens : List Lexeme) (d : Derivation Module) → Derives Module tokens [] d → Reaches at_end (config start tokens) (config (module_done d) [])

-- what is read can be completed, whatever follows it
abbrev pub EachRunBeginsAProgram : Type 0
EachRunBeginsAProgram =
    (z : Ending) (before rest : List Lexeme) (s : State Module) → Reaches z (config start (before ++ rest)) (config s rest) → BeginsProgram before
