-- Modules of files, and answers about a file.
use Rattle.std.specs.Prelude.{◌≡◌, List, map, Option, Result, Ok, Err}
use Rattle.starlark_checks.specs.Kinds.{Lexer, UnexpectedToken, UnexpectedEnd}
use Rattle.starlark_checks.specs.Refusals.{Refusal, at, in_file, out_of_memory}
use Rattle.starlark_spec.specs.Faults.{Fault}
use Rattle.starlark_checks.specs.Faults.{Names, refusal_of}
use Rattle.starlark_module.specs.Comments.Keeping.{comment_spans}
use Rattle.starlark_spec.specs.Answers.{Answer, IsLexerFault, IsUnexpected, IsUnexpectedEnd}
use Rattle.starlark_spec.specs.Answers.Answer.{module_of}
use Rattle.starlark_spec.specs.Items.{Items}
use Rattle.starlark_lexer.specs.Lexer.{CodeLexeme, lexeme_of}
use Rattle.starlark_lexer.specs.Places.{File}
use Rattle.starlark_lexer.specs.Tokens.{Lexeme, LexerFault, Span, fault_of, span_of}
use Rattle.starlark_lexer.specs.declared.dialect.Dialect.{Dialect}
use Rattle.starlark_lexer.specs.declared.token.LexerError.{LexerError}
use Rattle.starlark_module.specs.Comments.Building.{suppressions_in}
use Rattle.starlark_module.specs.Comments.Suppressions.{suppressions}
use Rattle.starlark_module.specs.ConsumedLexemes.{AnswersCallsUnder}
use Rattle.starlark_module.specs.declared.module.AstModule.{AstModule}
use Rattle.starlark_tree.specs.Ast.{Statement, no_payload}
use Rattle.starlark_tree.specs.Views.{statement_of}
use Rattle.starlark_validate.specs.Answers.{IsFault}

-- The items of a file are refused correctly under a dialect: by the lexer's error, at the token that cannot continue any program, at the end, or by a
-- rule that is broken. Out of memory says nothing about them.
pub data IsRefused (dialect : Dialect) (items : Items) (file : File) (refusal : Refusal) : Type 0 where
  for_memory : refusal ≡ out_of_memory → IsRefused dialect items file refusal
  by_lexer : (e : LexerError) → refusal ≡ in_file (Lexer e) file e.span → IsLexerFault dialect.enable_types items (fault_of e)
      → IsRefused dialect items file refusal
  at_token : (span : Span) → refusal ≡ at UnexpectedToken (record { file = file; span = span }) → IsUnexpected dialect.enable_types items span
      → IsRefused dialect items file refusal
  at_end : (span : Span) → refusal ≡ at UnexpectedEnd (record { file = file; span = span }) → IsUnexpectedEnd dialect.enable_types items span
      → IsRefused dialect items file refusal
  by_rule : (fault : Fault) → refusal ≡ refusal_of file fault → IsFault dialect items fault → IsRefused dialect items file refusal

-- the module of a file with this statement, and with the comments of these lexemes
pub record IsModuleOf (file : File) (lexemes : List (Result Lexeme LexerFault)) (s : Statement no_payload) (m : AstModule) : Type 0 where
  pub codemap : m.codemap ≡ file
  pub statement : statement_of m.statement ≡ s
  pub comments : map span_of m.comments.items ≡ comment_spans lexemes
  pub suppressions_are : suppressions_in m.suppressions ≡ suppressions file.text lexemes

-- an answer for these lexemes, as a module of the file or an error in it
abbrev pub Says : File → List (Result Lexeme LexerFault) → Answer → Result AstModule Refusal → Type 0
Says file lexemes (module_of s) (Ok m) = IsModuleOf file lexemes s m
Says file lexemes answer (Ok m) = ⊥
Says file lexemes answer (Err e) = Names file answer e

-- The result is a correct answer under a dialect for the lexemes that came from an iterator, which was at s and is at t.
pub record AnswersCall {S : Type 0} (steps : S → Option CodeLexeme → S → Type 0) (dialect : Dialect) (s : S) (file : File)
    (result : Result AstModule Refusal) (t : S) : Type 0 where
  pub answer : Answer
  pub from : AnswersCallsUnder steps dialect s answer t
  pub says : Says file (map lexeme_of from.calls) answer result
