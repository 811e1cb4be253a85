-- An error's kind, without its memory.
use Rattle.std.specs.Prelude.{⊤}
use Rattle.starlark_lexer.specs.declared.token.LexerError.{LexerError}
use Rattle.starlark_spec.specs.Faults.{Rule, Grammar, Call, Params, TypeExpr, Dialect, Place, type_fault_of}
use Rattle.starlark_checks.specs.declared.error.kind.ErrorKind.{ErrorKind}
use Rattle.starlark_checks.specs.declared.error.kind.ErrorKind.TheVariants as kind

pub data Kind : Type 0 where
  TextTooLong Memory UnexpectedToken UnexpectedEnd : Kind
  Lexer : LexerError → Kind
  Broken : Rule → Kind

abbrev pub kind_of : ErrorKind → Kind
kind_of kind.TextTooLong = TextTooLong
kind_of kind.Memory = Memory
kind_of (kind.Lexer e) = Lexer e
kind_of kind.UnexpectedToken = UnexpectedToken
kind_of kind.UnexpectedEnd = UnexpectedEnd
kind_of (kind.Grammar e) = Broken (Grammar e)
kind_of (kind.Call e) = Broken (Call e)
kind_of (kind.Params e) = Broken (Params e)
kind_of (kind.TypeExpr e) = Broken (TypeExpr (type_fault_of e))
kind_of (kind.Dialect e) = Broken (Dialect e)
kind_of (kind.Place e) = Broken (Place e)

-- the kinds that are at a span of a file: all except a text that is too long, and out of memory
abbrev pub HasPlace : Kind → Type 0
HasPlace TextTooLong = ⊥
HasPlace Memory = ⊥
HasPlace kind = ⊤
