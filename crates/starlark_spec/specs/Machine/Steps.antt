-- The machine over a list of tokens.
use Rattle.std.specs.Prelude.{◌≡◌, List, [], ◌∷◌, None}
use Rattle.starlark_lexer.specs.Tokens.{Lexeme}
use Rattle.starlark_lexer.specs.declared.dialect.DialectTypes.{DialectTypes}
use Rattle.starlark_spec.specs.Items.{Ending}
use Rattle.starlark_spec.specs.Grammar.{Nonterminal, Derivation}
use Rattle.starlark_spec.specs.Grammar.Nonterminal.{Module}
use Rattle.starlark_spec.specs.Machine.States.{State, top, module_root}
use Rattle.starlark_spec.specs.Machine.States.State.{read, done}
use Rattle.starlark_spec.specs.Machine.Sight.{look}
use Rattle.starlark_spec.specs.Machine.Moves.{Move, Keep, Take, Fail, Finish, move}
use Rattle.starlark_spec.specs.Machine.Faults.{fault_at}

-- where it starts, and where it ends with a derivation
abbrev pub start : State Module
start = read Module (top module_root)

abbrev pub module_done : Derivation Module → State Module
module_done d = done d (top module_root)

pub record Config (b : Nonterminal) : Type 0 where
  pub state : State b
  pub rest : List Lexeme

abbrev pub config : {b : Nonterminal} → State b → List Lexeme → Config b
config s rest = record { state = s; rest = rest }

abbrev pub after_first : List Lexeme → List Lexeme
after_first [] = []
after_first (x ∷ xs) = xs

abbrev pub next : {b : Nonterminal} → Move b → Config b → Config b
next (Keep s) c = config s c.rest
next (Take s) c = config s (after_first c.rest)
next Fail c = c
next (Finish d) c = c

abbrev pub step : {b : Nonterminal} → Ending → Config b → Config b
step z c = next (move c.state (look z c.rest)) c

pub data Reaches {b : Nonterminal} (z : Ending) : Config b → Config b → Type 0 where
  here : {a : Config b} → Reaches z a a
  more : {a c : Config b} → Reaches z (step z a) c → Reaches z a c

-- a run in which no step breaks a rule
pub data Clean {b : Nonterminal} (types : DialectTypes) (z : Ending) : Config b → Config b → Type 0 where
  rests : {a : Config b} → Clean types z a a
  steps_on : {a c : Config b} → fault_at types a.state (look z a.rest) ≡ None → Clean types z (step z a) c → Clean types z a c
