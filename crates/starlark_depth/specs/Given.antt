-- What calls of an iterator of lexemes have returned of a list.
use Rattle.std.specs.Prelude.{◌≡◌, ◌⊎◌, false, List, Option, Some, Result, Err}
use Rattle.starlark_lexer.specs.Lexemes as lexing
use Rattle.starlark_lexer.specs.Lexer.{CodeLexeme, lexeme_of}
use Rattle.starlark_lexer.specs.Lexer as calls
use Rattle.starlark_lexer.specs.Tokens.{Text, Lexeme, LexerFault}
use Rattle.starlark_lexer.specs.declared.lexer.Lexer.{Lexer}
use Rattle.starlark_lexer.specs.declared.token.LexerErrorKind.TheVariants as kinds
use Rattle.starlark_parse_cursor.specs.Runs.{lexemes_with}
use Rattle.starlark_depth.specs.Counted.{state_of}
use Rattle.starlark_depth.specs.Depths.{start}
use Rattle.starlark_depth.specs.declared.guard.DepthGuard.{DepthGuard}

abbrev pub IsOutOfMemory : Option CodeLexeme → Type 0
IsOutOfMemory (Some (Err e)) = e.kind ≡ kinds.Memory
IsOutOfMemory _ = ⊥

-- The list begins with what was returned, and ends there if the last call returned nothing; or allocation failed.
abbrev pub IsGivenOf : List (Result Lexeme LexerFault) → List CodeLexeme → Option CodeLexeme → Type 0
IsGivenOf ls xs last = ((more : List (Result Lexeme LexerFault)) × (ls ≡ lexemes_with xs last more)) ⊎ IsOutOfMemory last

-- a guard of a lexer at the start of a text
pub record Begins (text : Text) (g : DepthGuard Lexer) : Type 0 where
  pub lexer : calls.state_of g.lexemes.now ≡ lexing.start text
  pub counted : state_of g.depth ≡ start
  pub running : g.failed ≡ false
