-- Tokens as messages name them.
use Rattle.std.specs.Prelude.{◌++◌, [], codes, if◌then◌else◌}
use Rattle.starlark_lexer.specs.Tokens.{Text}
use Rattle.starlark_lexer.specs.declared.kind.Kind.{Kind}
use Rattle.starlark_lexer.specs.declared.kind.Kind.TheVariants as kinds
use Rattle.starlark_diagnostics.specs.Messages.{is_short}

-- a Newline that no newline is written for ends the file
abbrev pub newline_name : Text → Text
newline_name [] = codes "end of file"
newline_name text = codes "new line"

abbrev pub string_name : Text → Text
string_name text = if is_short text then codes "string " ++ text else codes "string"

-- a token of the kind that is written so
abbrev pub token_name : Kind → Text → Text
token_name kinds.Newline text = newline_name text
token_name kinds.Indent text = codes "indentation"
token_name kinds.Dedent text = codes "end of the block"
token_name kinds.String text = string_name text
token_name kinds.Bytes text = string_name text
token_name kinds.FStringStart text = codes "string"
token_name kinds.FStringText text = codes "text of the string"
token_name kinds.FStringEnd text = codes "end of the string"
token_name kinds.Identifier text = codes "name `" ++ (text ++ codes "`")
token_name kinds.Int text = codes "number `" ++ (text ++ codes "`")
token_name kinds.Float text = codes "number `" ++ (text ++ codes "`")
token_name kind text = codes "`" ++ (text ++ codes "`")
