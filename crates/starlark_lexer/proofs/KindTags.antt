-- The number that the code compares.
use Rattle.std.proofs.Common.{◌≡◌, refl}
use denote.Enum.Declared.{tag_of}
use Rattle.starlark_lexer.specs.contracts.kind.Kind.{the_type}
use Rattle.starlark_lexer.specs.declared.kind.Kind.{Kind}
use Rattle.starlark_lexer.specs.declared.kind.Kind.TheVariants as kinds
use Rattle.starlark_lexer.specs.Kinds.{code}

pub tag_is : (k : Kind) → tag_of the_type k ≡ code k
tag_is kinds.Identifier = refl
tag_is kinds.Int = refl
tag_is kinds.Float = refl
tag_is kinds.String = refl
tag_is kinds.Bytes = refl
tag_is kinds.Comment = refl
tag_is kinds.FStringStart = refl
tag_is kinds.FStringText = refl
tag_is kinds.Newline = refl
tag_is kinds.Indent = refl
tag_is kinds.Dedent = refl
tag_is kinds.FStringExprStart = refl
tag_is kinds.FStringBang = refl
tag_is kinds.FStringExprEnd = refl
tag_is kinds.FStringEnd = refl
tag_is kinds.And = refl
tag_is kinds.Break = refl
tag_is kinds.Continue = refl
tag_is kinds.Def = refl
tag_is kinds.Elif = refl
tag_is kinds.Else = refl
tag_is kinds.For = refl
tag_is kinds.If = refl
tag_is kinds.In = refl
tag_is kinds.Lambda = refl
tag_is kinds.Load = refl
tag_is kinds.Not = refl
tag_is kinds.Or = refl
tag_is kinds.Pass = refl
tag_is kinds.Return = refl
tag_is kinds.Comma = refl
tag_is kinds.Semicolon = refl
tag_is kinds.Colon = refl
tag_is kinds.Dot = refl
tag_is kinds.Ellipsis = refl
tag_is kinds.MinusGreater = refl
tag_is kinds.OpeningRound = refl
tag_is kinds.ClosingRound = refl
tag_is kinds.OpeningSquare = refl
tag_is kinds.ClosingSquare = refl
tag_is kinds.OpeningCurly = refl
tag_is kinds.ClosingCurly = refl
tag_is kinds.Plus = refl
tag_is kinds.Minus = refl
tag_is kinds.Star = refl
tag_is kinds.Slash = refl
tag_is kinds.SlashSlash = refl
tag_is kinds.Percent = refl
tag_is kinds.StarStar = refl
tag_is kinds.Ampersand = refl
tag_is kinds.Pipe = refl
tag_is kinds.Caret = refl
tag_is kinds.Tilde = refl
tag_is kinds.LessLess = refl
tag_is kinds.GreaterGreater = refl
tag_is kinds.LessThan = refl
tag_is kinds.GreaterThan = refl
tag_is kinds.LessEqual = refl
tag_is kinds.GreaterEqual = refl
tag_is kinds.EqualEqual = refl
tag_is kinds.BangEqual = refl
tag_is kinds.Equal = refl
tag_is kinds.PlusEqual = refl
tag_is kinds.MinusEqual = refl
tag_is kinds.StarEqual = refl
tag_is kinds.SlashEqual = refl
tag_is kinds.SlashSlashEqual = refl
tag_is kinds.PercentEqual = refl
tag_is kinds.AmpersandEqual = refl
tag_is kinds.PipeEqual = refl
tag_is kinds.CaretEqual = refl
tag_is kinds.LessLessEqual = refl
tag_is kinds.GreaterGreaterEqual = refl
tag_is kinds.Fault = refl
tag_is kinds.End = refl
