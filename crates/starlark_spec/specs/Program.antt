-- Programs, and how they begin.
use Rattle.std.specs.Prelude.{List, [], ◌++◌}
use Rattle.starlark_lexer.specs.Tokens.{Lexeme}
use Rattle.starlark_spec.specs.Grammar.{Derivation, Derives}
use Rattle.starlark_spec.specs.Grammar.Nonterminal.{Module}

-- the tokens derive a module
abbrev pub IsProgram : List Lexeme → Type 0
IsProgram tokens = (d : Derivation Module) × Derives Module tokens [] d

-- The tokens, perhaps with further tokens after them, are a program.
abbrev pub BeginsProgram : List Lexeme → Type 0
BeginsProgram tokens = (more : List Lexeme) × IsProgram (tokens ++ more)
