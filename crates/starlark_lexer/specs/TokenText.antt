-- The texts of integers and of the lexer's errors.
use Rattle.std.specs.Prelude.{codes}
use Rattle.std.specs.Fmt.{signed_decimal}
use Rattle.starlark_lexer.specs.declared.token.LexerErrorKind.{LexerErrorKind}
use Rattle.starlark_lexer.specs.declared.token.LexerErrorKind.TheVariants as kinds
use Rattle.starlark_lexer.specs.Tokens.{Text, Number, small, large}

-- in decimal
abbrev pub number_text : Number → Text
number_text (small n) = signed_decimal n
number_text (large text) = text

-- the kind's own name
abbrev pub kind_name : LexerErrorKind → Text
kind_name kinds.InvalidCharacter = codes "InvalidCharacter"
kind_name kinds.ReservedKeyword = codes "ReservedKeyword"
kind_name kinds.InvalidNumber = codes "InvalidNumber"
kind_name kinds.UnfinishedString = codes "UnfinishedString"
kind_name kinds.InvalidEscape = codes "InvalidEscape"
kind_name kinds.Indentation = codes "Indentation"
kind_name kinds.InvalidFString = codes "InvalidFString"
kind_name kinds.TooDeep = codes "TooDeep"
kind_name kinds.Memory = codes "Memory"
