-- Lexemes by their kinds.
use Rattle.std.proofs.Common.{◌≡◌, Bool, true, false, refl, sym, ◌∙◌, ap}
use Rattle.starlark_lexer.specs.Tokens.{Terminal, Lexeme, lexeme}
use Rattle.starlark_lexer.specs.Tokens as tokens
use Rattle.starlark_lexer.specs.declared.kind.Kind.{Kind}
use Rattle.starlark_lexer.specs.declared.kind.Kind.TheVariants as kinds
use Rattle.starlark_lexer.specs.Kinds.{kind_of, is_plain, token_of}
use Rattle.starlark_lexer.proofs.KindTests.{token_of-plain}
use Rattle.starlark_spec.specs.Machine.Sight.{text_of, number_of, quote_of, is_ending}

-- a lexeme, if its kind is that of a token without contents
pub first_plain : (x : Lexeme) (k : Kind) → is_plain k ≡ true → kind_of x.token ≡ k → x ≡ lexeme (token_of k) x.span
first_plain x k h e = ap (λ t. lexeme t x.span) (sym (token_of-plain x.token (ap is_plain e ∙ h)) ∙ ap token_of e)

-- and if its kind is that of such a token
pub first_token : (x : Lexeme) (u : Terminal) → is_plain (kind_of u) ≡ true → kind_of x.token ≡ kind_of u → x ≡ lexeme u x.span
first_token x u h e = first_plain x (kind_of u) h e ∙ ap (λ t. lexeme t x.span) (token_of-plain u h)

token_identifier : (t : Terminal) → kind_of t ≡ kinds.Identifier → t ≡ tokens.Identifier (text_of t)
token_identifier (tokens.Identifier x) e = refl
token_identifier t e = cc

pub first_identifier : (x : Lexeme) → kind_of x.token ≡ kinds.Identifier → x ≡ lexeme (tokens.Identifier (text_of x.token)) x.span
first_identifier x e = ap (λ t. lexeme t x.span) (token_identifier x.token e)

token_int : (t : Terminal) → kind_of t ≡ kinds.Int → t ≡ tokens.Int (number_of t)
token_int (tokens.Int x) e = refl
token_int t e = cc

pub first_int : (x : Lexeme) → kind_of x.token ≡ kinds.Int → x ≡ lexeme (tokens.Int (number_of x.token)) x.span
first_int x e = ap (λ t. lexeme t x.span) (token_int x.token e)

token_float : (t : Terminal) → kind_of t ≡ kinds.Float → t ≡ tokens.Float (text_of t)
token_float (tokens.Float x) e = refl
token_float t e = cc

pub first_float : (x : Lexeme) → kind_of x.token ≡ kinds.Float → x ≡ lexeme (tokens.Float (text_of x.token)) x.span
first_float x e = ap (λ t. lexeme t x.span) (token_float x.token e)

token_string : (t : Terminal) → kind_of t ≡ kinds.String → t ≡ tokens.String (text_of t)
token_string (tokens.String x) e = refl
token_string t e = cc

pub first_string : (x : Lexeme) → kind_of x.token ≡ kinds.String → x ≡ lexeme (tokens.String (text_of x.token)) x.span
first_string x e = ap (λ t. lexeme t x.span) (token_string x.token e)

token_bytes : (t : Terminal) → kind_of t ≡ kinds.Bytes → t ≡ tokens.Bytes (text_of t)
token_bytes (tokens.Bytes x) e = refl
token_bytes t e = cc

pub first_bytes : (x : Lexeme) → kind_of x.token ≡ kinds.Bytes → x ≡ lexeme (tokens.Bytes (text_of x.token)) x.span
first_bytes x e = ap (λ t. lexeme t x.span) (token_bytes x.token e)

token_text : (t : Terminal) → kind_of t ≡ kinds.FStringText → t ≡ tokens.FStringText (text_of t)
token_text (tokens.FStringText x) e = refl
token_text t e = cc

pub first_text : (x : Lexeme) → kind_of x.token ≡ kinds.FStringText → x ≡ lexeme (tokens.FStringText (text_of x.token)) x.span
first_text x e = ap (λ t. lexeme t x.span) (token_text x.token e)

token_quote : (t : Terminal) → kind_of t ≡ kinds.FStringStart → t ≡ tokens.FStringStart (quote_of t)
token_quote (tokens.FStringStart x) e = refl
token_quote t e = cc

pub first_quote : (x : Lexeme) → kind_of x.token ≡ kinds.FStringStart → x ≡ lexeme (tokens.FStringStart (quote_of x.token)) x.span
first_quote x e = ap (λ t. lexeme t x.span) (token_quote x.token e)

-- a token is not an ending
pub no_ending : (u : Terminal) → is_ending (kind_of u) ≡ false
no_ending (tokens.Identifier x) = refl
no_ending u = refl
