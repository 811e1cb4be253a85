-- Tests on kinds.
use Rattle.std.proofs.Common.{◌≡◌, Bool, true, false, List, [], ◌∷◌, get_or, refl, sym, ◌∙◌, ap, arith}
use Rattle.std.proofs.lemmas.Bool.{eqb-true, ne_eqb}
use Rattle.std.proofs.lemmas.Bool.Decides.{nat_tests}
use Rattle.starlark_lexer.specs.Tokens.{Terminal}
use Rattle.starlark_lexer.specs.Tokens as tokens
use Rattle.starlark_lexer.specs.declared.kind.Kind.{Kind}
use Rattle.starlark_lexer.specs.declared.kind.Kind.TheVariants as kinds
use Rattle.starlark_lexer.specs.Kinds.{kind_of, code, is, is_plain, token_of}

every_kind : List Kind
every_kind = kinds.Identifier ∷ kinds.Int ∷ kinds.Float ∷ kinds.String ∷ kinds.Bytes ∷ kinds.Comment ∷ kinds.Newline ∷ kinds.Indent ∷ kinds.Dedent ∷
    kinds.FStringStart ∷ kinds.FStringText ∷ kinds.FStringExprStart ∷ kinds.FStringBang ∷ kinds.FStringExprEnd ∷ kinds.FStringEnd ∷ kinds.And ∷ kinds.Break ∷
    kinds.Continue ∷ kinds.Def ∷ kinds.Elif ∷ kinds.Else ∷ kinds.For ∷ kinds.If ∷ kinds.In ∷ kinds.Lambda ∷ kinds.Load ∷ kinds.Not ∷ kinds.Or ∷ kinds.Pass ∷
    kinds.Return ∷ kinds.Comma ∷ kinds.Semicolon ∷ kinds.Colon ∷ kinds.Dot ∷ kinds.Ellipsis ∷ kinds.MinusGreater ∷ kinds.OpeningRound ∷ kinds.ClosingRound ∷
    kinds.OpeningSquare ∷ kinds.ClosingSquare ∷ kinds.OpeningCurly ∷ kinds.ClosingCurly ∷ kinds.Plus ∷ kinds.Minus ∷ kinds.Star ∷ kinds.Slash ∷
    kinds.SlashSlash ∷ kinds.Percent ∷ kinds.StarStar ∷ kinds.Ampersand ∷ kinds.Pipe ∷ kinds.Caret ∷ kinds.Tilde ∷ kinds.LessLess ∷ kinds.GreaterGreater ∷
    kinds.LessThan ∷ kinds.GreaterThan ∷ kinds.LessEqual ∷ kinds.GreaterEqual ∷ kinds.EqualEqual ∷ kinds.BangEqual ∷ kinds.Equal ∷ kinds.PlusEqual ∷
    kinds.MinusEqual ∷ kinds.StarEqual ∷ kinds.SlashEqual ∷ kinds.SlashSlashEqual ∷ kinds.PercentEqual ∷ kinds.AmpersandEqual ∷ kinds.PipeEqual ∷
    kinds.CaretEqual ∷ kinds.LessLessEqual ∷ kinds.GreaterGreaterEqual ∷ kinds.Fault ∷ kinds.End ∷ []

kind_at-code : (k : Kind) → get_or every_kind (code k) kinds.End ≡ k
unfolding every_kind
kind_at-code kinds.Identifier = refl
kind_at-code kinds.Int = refl
kind_at-code kinds.Float = refl
kind_at-code kinds.String = refl
kind_at-code kinds.Bytes = refl
kind_at-code kinds.Comment = refl
kind_at-code kinds.FStringStart = refl
kind_at-code kinds.FStringText = refl
kind_at-code kinds.Newline = refl
kind_at-code kinds.Indent = refl
kind_at-code kinds.Dedent = refl
kind_at-code kinds.FStringExprStart = refl
kind_at-code kinds.FStringBang = refl
kind_at-code kinds.FStringExprEnd = refl
kind_at-code kinds.FStringEnd = refl
kind_at-code kinds.And = refl
kind_at-code kinds.Break = refl
kind_at-code kinds.Continue = refl
kind_at-code kinds.Def = refl
kind_at-code kinds.Elif = refl
kind_at-code kinds.Else = refl
kind_at-code kinds.For = refl
kind_at-code kinds.If = refl
kind_at-code kinds.In = refl
kind_at-code kinds.Lambda = refl
kind_at-code kinds.Load = refl
kind_at-code kinds.Not = refl
kind_at-code kinds.Or = refl
kind_at-code kinds.Pass = refl
kind_at-code kinds.Return = refl
kind_at-code kinds.Comma = refl
kind_at-code kinds.Semicolon = refl
kind_at-code kinds.Colon = refl
kind_at-code kinds.Dot = refl
kind_at-code kinds.Ellipsis = refl
kind_at-code kinds.MinusGreater = refl
kind_at-code kinds.OpeningRound = refl
kind_at-code kinds.ClosingRound = refl
kind_at-code kinds.OpeningSquare = refl
kind_at-code kinds.ClosingSquare = refl
kind_at-code kinds.OpeningCurly = refl
kind_at-code kinds.ClosingCurly = refl
kind_at-code kinds.Plus = refl
kind_at-code kinds.Minus = refl
kind_at-code kinds.Star = refl
kind_at-code kinds.Slash = refl
kind_at-code kinds.SlashSlash = refl
kind_at-code kinds.Percent = refl
kind_at-code kinds.StarStar = refl
kind_at-code kinds.Ampersand = refl
kind_at-code kinds.Pipe = refl
kind_at-code kinds.Caret = refl
kind_at-code kinds.Tilde = refl
kind_at-code kinds.LessLess = refl
kind_at-code kinds.GreaterGreater = refl
kind_at-code kinds.LessThan = refl
kind_at-code kinds.GreaterThan = refl
kind_at-code kinds.LessEqual = refl
kind_at-code kinds.GreaterEqual = refl
kind_at-code kinds.EqualEqual = refl
kind_at-code kinds.BangEqual = refl
kind_at-code kinds.Equal = refl
kind_at-code kinds.PlusEqual = refl
kind_at-code kinds.MinusEqual = refl
kind_at-code kinds.StarEqual = refl
kind_at-code kinds.SlashEqual = refl
kind_at-code kinds.SlashSlashEqual = refl
kind_at-code kinds.PercentEqual = refl
kind_at-code kinds.AmpersandEqual = refl
kind_at-code kinds.PipeEqual = refl
kind_at-code kinds.CaretEqual = refl
kind_at-code kinds.LessLessEqual = refl
kind_at-code kinds.GreaterGreaterEqual = refl
kind_at-code kinds.Fault = refl
kind_at-code kinds.End = refl

pub code-injective : (a b : Kind) → code a ≡ code b → a ≡ b
code-injective a b e = sym (kind_at-code a) ∙ ap (λ n. get_or every_kind n kinds.End) e ∙ kind_at-code b

pub is_true : (a b : Kind) → is a b ≡ true → a ≡ b
is_true a b h = code-injective a b (eqb-true _ _ h)

pub is_false : (a b : Kind) → (a ≡ b → ⊥) → is a b ≡ false
is_false a b h = ne_eqb _ _ (λ e. h (code-injective a b e))

pub is-same : (k : Kind) → is k k ≡ true
is-same k = grind (arith, nat_tests)

-- kinds that differ in a test are different
pub differs : (f : Kind → Bool) (k t : Kind) → f k ≡ true → f t ≡ false → is k t ≡ false
differs f k t h g = is_false k t (λ e. let w : true ≡ false = sym h ∙ ap f e ∙ g in cc)

pub token_of-plain : (u : Terminal) → is_plain (kind_of u) ≡ true → token_of (kind_of u) ≡ u
token_of-plain (tokens.Identifier x) h = cc
token_of-plain (tokens.Int x) h = cc
token_of-plain (tokens.Float x) h = cc
token_of-plain (tokens.String x) h = cc
token_of-plain (tokens.Bytes x) h = cc
token_of-plain (tokens.Comment x) h = cc
token_of-plain (tokens.FStringStart x) h = cc
token_of-plain (tokens.FStringText x) h = cc
token_of-plain tokens.Newline h = refl
token_of-plain tokens.Indent h = refl
token_of-plain tokens.Dedent h = refl
token_of-plain tokens.FStringExprStart h = refl
token_of-plain tokens.FStringBang h = refl
token_of-plain tokens.FStringExprEnd h = refl
token_of-plain tokens.FStringEnd h = refl
token_of-plain tokens.And h = refl
token_of-plain tokens.Break h = refl
token_of-plain tokens.Continue h = refl
token_of-plain tokens.Def h = refl
token_of-plain tokens.Elif h = refl
token_of-plain tokens.Else h = refl
token_of-plain tokens.For h = refl
token_of-plain tokens.If h = refl
token_of-plain tokens.In h = refl
token_of-plain tokens.Lambda h = refl
token_of-plain tokens.Load h = refl
token_of-plain tokens.Not h = refl
token_of-plain tokens.Or h = refl
token_of-plain tokens.Pass h = refl
token_of-plain tokens.Return h = refl
token_of-plain tokens.Comma h = refl
token_of-plain tokens.Semicolon h = refl
token_of-plain tokens.Colon h = refl
token_of-plain tokens.Dot h = refl
token_of-plain tokens.Ellipsis h = refl
token_of-plain tokens.MinusGreater h = refl
token_of-plain tokens.OpeningRound h = refl
token_of-plain tokens.ClosingRound h = refl
token_of-plain tokens.OpeningSquare h = refl
token_of-plain tokens.ClosingSquare h = refl
token_of-plain tokens.OpeningCurly h = refl
token_of-plain tokens.ClosingCurly h = refl
token_of-plain tokens.Plus h = refl
token_of-plain tokens.Minus h = refl
token_of-plain tokens.Star h = refl
token_of-plain tokens.Slash h = refl
token_of-plain tokens.SlashSlash h = refl
token_of-plain tokens.Percent h = refl
token_of-plain tokens.StarStar h = refl
token_of-plain tokens.Ampersand h = refl
token_of-plain tokens.Pipe h = refl
token_of-plain tokens.Caret h = refl
token_of-plain tokens.Tilde h = refl
token_of-plain tokens.LessLess h = refl
token_of-plain tokens.GreaterGreater h = refl
token_of-plain tokens.LessThan h = refl
token_of-plain tokens.GreaterThan h = refl
token_of-plain tokens.LessEqual h = refl
token_of-plain tokens.GreaterEqual h = refl
token_of-plain tokens.EqualEqual h = refl
token_of-plain tokens.BangEqual h = refl
token_of-plain tokens.Equal h = refl
token_of-plain tokens.PlusEqual h = refl
token_of-plain tokens.MinusEqual h = refl
token_of-plain tokens.StarEqual h = refl
token_of-plain tokens.SlashEqual h = refl
token_of-plain tokens.SlashSlashEqual h = refl
token_of-plain tokens.PercentEqual h = refl
token_of-plain tokens.AmpersandEqual h = refl
token_of-plain tokens.PipeEqual h = refl
token_of-plain tokens.CaretEqual h = refl
token_of-plain tokens.LessLessEqual h = refl
token_of-plain tokens.GreaterGreaterEqual h = refl
