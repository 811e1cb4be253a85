-- Messages on the lexer's errors, and on what a dialect leaves out.
use Rattle.std.specs.Prelude.{◌++◌, ◌&&◌, ◌==◌, Bool, codes, if◌then◌else◌, length, nat_le, not}
use Rattle.std.specs.List.{list_any}
use Rattle.starlark_lexer.specs.Bytes.{line_feed}
use Rattle.starlark_lexer.specs.Tokens.{Text}
use Rattle.starlark_lexer.specs.declared.token.LexerErrorKind.{LexerErrorKind}
use Rattle.starlark_lexer.specs.declared.token.LexerErrorKind.TheVariants as lexer

abbrev pub has_newline : Text → Bool
has_newline text = list_any (λ b. b == line_feed) text

-- a text that a message repeats: of one line, and at most 30 bytes long
abbrev pub is_short : Text → Bool
is_short text = nat_le (length text) 30 && not (has_newline text)

-- a message about a text
abbrev pub about : Text → Text → Text
about text what = if is_short text then codes "`" ++ (text ++ (codes "`" ++ what)) else codes "this" ++ what

-- of an error of the lexer at this text
abbrev pub lexer_message : LexerErrorKind → Text → Text
lexer_message lexer.InvalidCharacter text = codes "the character `" ++ (text ++ codes "` has no meaning")
lexer_message lexer.ReservedKeyword text = codes "`" ++ (text ++ codes "` is a reserved word")
lexer_message lexer.InvalidNumber text = about text (codes " is not a number")
lexer_message lexer.UnfinishedString text = codes "this string is not closed"
lexer_message lexer.InvalidEscape text = about text (codes " is not an escape sequence")
lexer_message lexer.Indentation text = codes "the indentation of this line is that of no block around it"
lexer_message lexer.InvalidFString text = codes "a single `}` in an f-string is written `}}`"
lexer_message lexer.TooDeep text = codes "the code nests too deeply here"
lexer_message lexer.Memory text = codes "out of memory"
