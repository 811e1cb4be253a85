-- Whether lexemes end since memory ran out.
use Rattle.std.specs.Prelude.{Bool, true, false, ◌-◌, List, Option, Some, None, Ok, Err, length, slice_get}
use Rattle.starlark_lexer.specs.Lexer.{CodeLexeme}
use Rattle.starlark_lexer.specs.declared.token.LexerErrorKind.{LexerErrorKind}
use Rattle.starlark_lexer.specs.declared.token.LexerErrorKind.TheVariants as kinds

abbrev pub is_memory : LexerErrorKind → Bool
is_memory kinds.Memory = true
is_memory kind = false

abbrev pub is_memory_error : CodeLexeme → Bool
is_memory_error (Ok x) = false
is_memory_error (Err e) = is_memory e.kind

abbrev pub is_last_memory : Option CodeLexeme → Bool
is_last_memory None = false
is_last_memory (Some x) = is_memory_error x

-- the last of them says that memory ran out
abbrev pub runs_out : List CodeLexeme → Bool
runs_out lexemes = is_last_memory (slice_get lexemes (length lexemes - 1))
