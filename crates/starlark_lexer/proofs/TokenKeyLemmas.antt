-- A token is determined by its key.
use Rattle.std.proofs.Common.{◌≡◌, ◌↔◌, zero, suc, Bool, true, false, IsTrue, refl, sym, ap, ◌∙◌, rules, tests}
use Rattle.starlark_lexer.specs.declared.token.FStringQuote.{FStringQuote}
use Rattle.starlark_lexer.specs.declared.token.FStringQuote.TheVariants.{Single, Double, TripleSingle, TripleDouble}
use Rattle.starlark_lexer.specs.declared.kind.Kind.{Kind}
use Rattle.starlark_lexer.specs.declared.kind.Kind.TheVariants as kinds
use Rattle.starlark_lexer.specs.Tokens.{Number, small, large, Terminal}
use Rattle.starlark_lexer.specs.Tokens as tokens
use Rattle.starlark_lexer.specs.Kinds.{kind_of, code, is_plain, token_of}
use Rattle.starlark_lexer.specs.TokenKey.{Content, Key, content_of, key_of, same_content, same_key}
use Rattle.starlark_lexer.proofs.KindTests.{code-injective, token_of-plain}

number_at : Content → Number
number_at (zero, n, text) = small n
number_at (_, n, text) = large text

quote_at : Content → FStringQuote
quote_at (zero, n, text) = Single
quote_at (suc zero, n, text) = Double
quote_at (suc (suc zero), n, text) = TripleSingle
quote_at (_, n, text) = TripleDouble

-- the token of this kind, which is not plain, with this content
token_with : Kind → Content → Terminal
token_with kinds.Identifier c = tokens.Identifier c.2
token_with kinds.Int c = tokens.Int (number_at c)
token_with kinds.Float c = tokens.Float c.2
token_with kinds.String c = tokens.String c.2
token_with kinds.Bytes c = tokens.Bytes c.2
token_with kinds.Comment c = tokens.Comment c.2
token_with kinds.FStringText c = tokens.FStringText c.2
token_with _ c = tokens.FStringStart (quote_at c)

token_with-content_of : (t : Terminal) → is_plain (kind_of t) ≡ false → token_with (kind_of t) (content_of t) ≡ t
unfolding token_with number_at quote_at
token_with-content_of (tokens.Identifier text) h = refl
token_with-content_of (tokens.Int (small n)) h = refl
token_with-content_of (tokens.Int (large text)) h = refl
token_with-content_of (tokens.Float text) h = refl
token_with-content_of (tokens.String text) h = refl
token_with-content_of (tokens.Bytes text) h = refl
token_with-content_of (tokens.Comment text) h = refl
token_with-content_of (tokens.FStringText text) h = refl
token_with-content_of (tokens.FStringStart Single) h = refl
token_with-content_of (tokens.FStringStart Double) h = refl
token_with-content_of (tokens.FStringStart TripleSingle) h = refl
token_with-content_of (tokens.FStringStart TripleDouble) h = refl
token_with-content_of t h = cc

same_kind_and_content : (a b : Terminal) → kind_of a ≡ kind_of b → content_of a ≡ content_of b → (plain : Bool) → is_plain (kind_of a) ≡ plain → a ≡ b
same_kind_and_content a b k c true h = sym (token_of-plain a h) ∙ ap token_of k ∙ token_of-plain b (sym (ap is_plain k) ∙ h)
same_kind_and_content a b k c false h =
    sym (token_with-content_of a h) ∙ ap (λ kind. token_with kind (content_of a)) k ∙ ap (token_with (kind_of b)) c
    ∙ token_with-content_of b (sym (ap is_plain k) ∙ h)

same_content-equal : (c d : Content) → IsTrue (same_content c d) → c ≡ d
same_content-equal c d same = search (rules, tests)

same_content-itself : (c : Content) → IsTrue (same_content c c)
same_content-itself c = search (rules, tests)

-- for two tokens of one kind, comparing their contents decides whether they are equal
pub same_content-decides :
    (same : Bool) (a b : Terminal) → kind_of a ≡ kind_of b → same ≡ same_content (content_of a) (content_of b) → IsTrue same ↔ (a ≡ b)
same_content-decides same a b k e = (
  λ yes. same_kind_and_content a b k (same_content-equal _ _ (rw (← e) yes)) (is_plain (kind_of a)) refl,
  λ equal. rw (e, equal) (same_content-itself (content_of b)),
)
