-- What a token contains, and where it is. A text is its bytes, wherever it lies in memory.
use Rattle.std.specs.Prelude.{ℕ, ℤ, List, string_bytes}
use Rattle.starlark_lexer.specs.declared.span.Span.{Span as CodeSpan}
use Rattle.starlark_lexer.specs.declared.token.FStringQuote.{FStringQuote}
use Rattle.starlark_lexer.specs.declared.token.TokenInt.{TokenInt}
use Rattle.starlark_lexer.specs.declared.token.TokenInt.TheVariants as ints
use Rattle.starlark_lexer.specs.declared.token.Token.{Token}
use Rattle.starlark_lexer.specs.declared.token.Token.TheVariants as tokens
use Rattle.starlark_lexer.specs.declared.token.LexerErrorKind.{LexerErrorKind}
use Rattle.starlark_lexer.specs.declared.token.LexerError.{LexerError}

-- a text, as its bytes
abbrev pub Text : Type 0
Text = List ℕ

-- from a byte offset to a byte offset
pub record Span : Type 0 where
  pub begin : ℕ
  pub end : ℕ

abbrev pub from_to : ℕ → ℕ → Span
from_to begin end = record { begin = begin; end = end }

abbrev pub span_of : CodeSpan → Span
span_of s = from_to s.begin.byte s.end.byte

-- an integer: its value, or the text that denotes it
pub data Number : Type 0 where
  small : ℤ → Number
  large : Text → Number

-- a token without its memory
pub data Terminal : Type 0 where
  Identifier : Text → Terminal
  Int : Number → Terminal
  Float : Text → Terminal
  String : Text → Terminal
  Bytes : Text → Terminal
  Comment : Text → Terminal
  FStringStart : FStringQuote → Terminal
  FStringText : Text → Terminal
  Newline Indent Dedent FStringExprStart FStringBang FStringExprEnd FStringEnd And Break Continue Def Elif : Terminal
  Else For If In Lambda Load Not Or Pass Return Comma Semicolon Colon Dot Ellipsis MinusGreater OpeningRound : Terminal
  ClosingRound OpeningSquare ClosingSquare OpeningCurly ClosingCurly Plus Minus Star Slash SlashSlash Percent : Terminal
  StarStar Ampersand Pipe Caret Tilde LessLess GreaterGreater LessThan GreaterThan LessEqual GreaterEqual : Terminal
  EqualEqual BangEqual Equal PlusEqual MinusEqual StarEqual SlashEqual SlashSlashEqual PercentEqual : Terminal
  AmpersandEqual PipeEqual CaretEqual LessLessEqual GreaterGreaterEqual : Terminal

-- the span of what is in no text
abbrev pub nowhere : Span
nowhere = from_to 0 0

-- a token and where it is
pub record Lexeme : Type 0 where
  pub token : Terminal
  pub span : Span

abbrev pub lexeme : Terminal → Span → Lexeme
lexeme token span = record { token = token; span = span }

-- what the lexer rejects, and where
pub record LexerFault : Type 0 where
  pub kind : LexerErrorKind
  pub span : Span

abbrev pub fault_of : LexerError → LexerFault
fault_of e = record { kind = e.kind; span = span_of e.span }

abbrev pub number : TokenInt → Number
number (ints.I32 n) = small n
number (ints.BigInt text) = large (string_bytes text)

abbrev pub terminal : Token → Terminal
terminal (tokens.Identifier text) = Identifier (string_bytes text)
terminal (tokens.Float text) = Float (string_bytes text)
terminal (tokens.String text) = String (string_bytes text)
terminal (tokens.Comment text) = Comment (string_bytes text)
terminal (tokens.FStringText text) = FStringText (string_bytes text)
terminal (tokens.Int n) = Int (number n)
terminal (tokens.Bytes bytes) = Bytes bytes.items
terminal (tokens.FStringStart quote) = FStringStart quote
terminal tokens.Newline = Newline
terminal tokens.Indent = Indent
terminal tokens.Dedent = Dedent
terminal tokens.FStringExprStart = FStringExprStart
terminal tokens.FStringBang = FStringBang
terminal tokens.FStringExprEnd = FStringExprEnd
terminal tokens.FStringEnd = FStringEnd
terminal tokens.And = And
terminal tokens.Break = Break
terminal tokens.Continue = Continue
terminal tokens.Def = Def
terminal tokens.Elif = Elif
terminal tokens.Else = Else
terminal tokens.For = For
terminal tokens.If = If
terminal tokens.In = In
terminal tokens.Lambda = Lambda
terminal tokens.Load = Load
terminal tokens.Not = Not
terminal tokens.Or = Or
terminal tokens.Pass = Pass
terminal tokens.Return = Return
terminal tokens.Comma = Comma
terminal tokens.Semicolon = Semicolon
terminal tokens.Colon = Colon
terminal tokens.Dot = Dot
terminal tokens.Ellipsis = Ellipsis
terminal tokens.MinusGreater = MinusGreater
terminal tokens.OpeningRound = OpeningRound
terminal tokens.ClosingRound = ClosingRound
terminal tokens.OpeningSquare = OpeningSquare
terminal tokens.ClosingSquare = ClosingSquare
terminal tokens.OpeningCurly = OpeningCurly
terminal tokens.ClosingCurly = ClosingCurly
terminal tokens.Plus = Plus
terminal tokens.Minus = Minus
terminal tokens.Star = Star
terminal tokens.Slash = Slash
terminal tokens.SlashSlash = SlashSlash
terminal tokens.Percent = Percent
terminal tokens.StarStar = StarStar
terminal tokens.Ampersand = Ampersand
terminal tokens.Pipe = Pipe
terminal tokens.Caret = Caret
terminal tokens.Tilde = Tilde
terminal tokens.LessLess = LessLess
terminal tokens.GreaterGreater = GreaterGreater
terminal tokens.LessThan = LessThan
terminal tokens.GreaterThan = GreaterThan
terminal tokens.LessEqual = LessEqual
terminal tokens.GreaterEqual = GreaterEqual
terminal tokens.EqualEqual = EqualEqual
terminal tokens.BangEqual = BangEqual
terminal tokens.Equal = Equal
terminal tokens.PlusEqual = PlusEqual
terminal tokens.MinusEqual = MinusEqual
terminal tokens.StarEqual = StarEqual
terminal tokens.SlashEqual = SlashEqual
terminal tokens.SlashSlashEqual = SlashSlashEqual
terminal tokens.PercentEqual = PercentEqual
terminal tokens.AmpersandEqual = AmpersandEqual
terminal tokens.PipeEqual = PipeEqual
terminal tokens.CaretEqual = CaretEqual
terminal tokens.LessLessEqual = LessLessEqual
terminal tokens.GreaterGreaterEqual = GreaterGreaterEqual
