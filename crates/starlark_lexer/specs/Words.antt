-- The keywords, reserved words, operators and punctuation of the language, and how tokens are spelled.
use Rattle.std.specs.Prelude.{Bool, true, false, ◌&&◌, ◌==◌, if◌then◌else◌, List, [], ◌∷◌, codes, Option, Some, None, option_map, unwrap_or}
use Rattle.std.specs.List.{list_any}
use Rattle.starlark_lexer.specs.Tokens.{Text, Terminal}
use Rattle.starlark_lexer.specs.Tokens.Terminal.{Identifier, And, Break, Continue, Def, Elif, Else, For, If, In, Lambda, Load, Not, Or, Pass, Return}
use Rattle.starlark_lexer.specs.Tokens.Terminal.{Comma, Semicolon, Colon, Dot, Ellipsis, MinusGreater, OpeningRound, ClosingRound, OpeningSquare}
use Rattle.starlark_lexer.specs.Tokens.Terminal.{ClosingSquare, OpeningCurly, ClosingCurly, Plus, Minus, Star, Slash, SlashSlash, Percent, StarStar}
use Rattle.starlark_lexer.specs.Tokens.Terminal.{Ampersand, Pipe, Caret, Tilde, LessLess, GreaterGreater, LessThan, GreaterThan, LessEqual}
use Rattle.starlark_lexer.specs.Tokens.Terminal.{GreaterEqual, EqualEqual, BangEqual, Equal, PlusEqual, MinusEqual, StarEqual, SlashEqual}
use Rattle.starlark_lexer.specs.Tokens.Terminal.{SlashSlashEqual, PercentEqual, AmpersandEqual, PipeEqual, CaretEqual, LessLessEqual}
use Rattle.starlark_lexer.specs.Tokens.Terminal.{GreaterGreaterEqual}

-- the spelling of an identifier, a keyword, an operator or punctuation
abbrev pub spelling : Terminal → Option Text
spelling (Identifier text) = Some text
spelling And = Some (codes "and")
spelling Break = Some (codes "break")
spelling Continue = Some (codes "continue")
spelling Def = Some (codes "def")
spelling Elif = Some (codes "elif")
spelling Else = Some (codes "else")
spelling For = Some (codes "for")
spelling If = Some (codes "if")
spelling In = Some (codes "in")
spelling Lambda = Some (codes "lambda")
spelling Load = Some (codes "load")
spelling Not = Some (codes "not")
spelling Or = Some (codes "or")
spelling Pass = Some (codes "pass")
spelling Return = Some (codes "return")
spelling Comma = Some (codes ",")
spelling Semicolon = Some (codes ";")
spelling Colon = Some (codes ":")
spelling Dot = Some (codes ".")
spelling Ellipsis = Some (codes "...")
spelling MinusGreater = Some (codes "->")
spelling OpeningRound = Some (codes "(")
spelling ClosingRound = Some (codes ")")
spelling OpeningSquare = Some (codes "[")
spelling ClosingSquare = Some (codes "]")
spelling OpeningCurly = Some (codes "{")
spelling ClosingCurly = Some (codes "}")
spelling Plus = Some (codes "+")
spelling Minus = Some (codes "-")
spelling Star = Some (codes "*")
spelling Slash = Some (codes "/")
spelling SlashSlash = Some (codes "//")
spelling Percent = Some (codes "%")
spelling StarStar = Some (codes "**")
spelling Ampersand = Some (codes "&")
spelling Pipe = Some (codes "|")
spelling Caret = Some (codes "^")
spelling Tilde = Some (codes "~")
spelling LessLess = Some (codes "<<")
spelling GreaterGreater = Some (codes ">>")
spelling LessThan = Some (codes "<")
spelling GreaterThan = Some (codes ">")
spelling LessEqual = Some (codes "<=")
spelling GreaterEqual = Some (codes ">=")
spelling EqualEqual = Some (codes "==")
spelling BangEqual = Some (codes "!=")
spelling Equal = Some (codes "=")
spelling PlusEqual = Some (codes "+=")
spelling MinusEqual = Some (codes "-=")
spelling StarEqual = Some (codes "*=")
spelling SlashEqual = Some (codes "/=")
spelling SlashSlashEqual = Some (codes "//=")
spelling PercentEqual = Some (codes "%=")
spelling AmpersandEqual = Some (codes "&=")
spelling PipeEqual = Some (codes "|=")
spelling CaretEqual = Some (codes "^=")
spelling LessLessEqual = Some (codes "<<=")
spelling GreaterGreaterEqual = Some (codes ">>=")
spelling _ = None

abbrev pub keywords : List Terminal
keywords =
    And ∷ Break ∷ Continue ∷ Def ∷ Elif ∷ Else ∷ For ∷ If ∷ In ∷ Lambda ∷ Load ∷ Not ∷ Or ∷ Pass ∷ Return ∷ []

abbrev pub signs : List Terminal
signs =
    Comma ∷ Semicolon ∷ Colon ∷ Dot ∷ Ellipsis ∷ MinusGreater ∷ OpeningRound ∷ ClosingRound ∷ OpeningSquare ∷
    ClosingSquare ∷ OpeningCurly ∷ ClosingCurly ∷ Plus ∷ Minus ∷ Star ∷ Slash ∷ SlashSlash ∷ Percent ∷ StarStar ∷
    Ampersand ∷ Pipe ∷ Caret ∷ Tilde ∷ LessLess ∷ GreaterGreater ∷ LessThan ∷ GreaterThan ∷ LessEqual ∷ GreaterEqual ∷
    EqualEqual ∷ BangEqual ∷ Equal ∷ PlusEqual ∷ MinusEqual ∷ StarEqual ∷ SlashEqual ∷ SlashSlashEqual ∷ PercentEqual ∷
    AmpersandEqual ∷ PipeEqual ∷ CaretEqual ∷ LessLessEqual ∷ GreaterGreaterEqual ∷ []

-- words that are not names, reserved for later versions of the language
abbrev pub reserved_words : List Text
reserved_words =
    codes "as" ∷ codes "class" ∷ codes "del" ∷ codes "except" ∷ codes "finally" ∷ codes "from" ∷ codes "global" ∷
    codes "import" ∷ codes "is" ∷ codes "nonlocal" ∷ codes "raise" ∷ codes "try" ∷ codes "while" ∷ codes "with" ∷
    codes "yield" ∷ []

abbrev pub same_text : Text → Text → Bool
same_text [] [] = true
same_text [] (y ∷ ys) = false
same_text (x ∷ xs) [] = false
same_text (x ∷ xs) (y ∷ ys) = x == y && same_text xs ys

abbrev pub is_spelled : Text → Terminal → Bool
is_spelled text t = unwrap_or (option_map (same_text text) (spelling t)) false

-- the token of a table with this spelling
abbrev pub spelled_so : Text → List Terminal → Option Terminal
spelled_so text [] = None
spelled_so text (t ∷ ts) = if is_spelled text t then Some t else spelled_so text ts

unfoldable pub keyword : Text → Option Terminal
keyword text = spelled_so text keywords

unfoldable pub sign : Text → Option Terminal
sign text = spelled_so text signs

unfoldable pub is_reserved : Text → Bool
is_reserved text = list_any (same_text text) reserved_words
