-- A token as its kind and its content, which determine it.
use Rattle.std.specs.Prelude.{ℕ, ℤ, pos, [], Bool, ◌==◌}
use Rattle.std.specs.Ordering.{on, eq_of_both, int_eq}
use Rattle.std.specs.Cmp.{IsEquivalence, and_equiv, on_equiv, nat_eq_equiv, int_eq_equiv}
use Rattle.std.specs.Cmp.Lexicographic.{pointwise, nat_list_eq_equiv}
use Rattle.starlark_lexer.specs.declared.token.FStringQuote.{FStringQuote}
use Rattle.starlark_lexer.specs.declared.token.FStringQuote.TheVariants.{Single, Double, TripleSingle, TripleDouble}
use Rattle.starlark_lexer.specs.Kinds.{code, kind_of}
use Rattle.starlark_lexer.specs.Tokens.{Text, Number, small, large, Terminal}
use Rattle.starlark_lexer.specs.Tokens as tokens

-- a number for the form, the small integer or 0, and the text or none
abbrev pub Content : Type 0
Content = ℕ × ℤ × Text

abbrev pub text_content : Text → Content
text_content text = (0, pos 0, text)

abbrev pub number_content : Number → Content
number_content (small n) = (0, n, [])
number_content (large text) = (1, pos 0, text)

abbrev pub quote_content : FStringQuote → Content
quote_content Single = (0, pos 0, [])
quote_content Double = (1, pos 0, [])
quote_content TripleSingle = (2, pos 0, [])
quote_content TripleDouble = (3, pos 0, [])

-- what a token contains besides its kind
abbrev pub content_of : Terminal → Content
content_of (tokens.Identifier text) = text_content text
content_of (tokens.Int n) = number_content n
content_of (tokens.Float text) = text_content text
content_of (tokens.String text) = text_content text
content_of (tokens.Bytes text) = text_content text
content_of (tokens.Comment text) = text_content text
content_of (tokens.FStringText text) = text_content text
content_of (tokens.FStringStart quote) = quote_content quote
content_of _ = text_content []

abbrev pub Key : Type 0
Key = ℕ × Content

abbrev pub key_of : Terminal → Key
key_of t = (code (kind_of t), content_of t)

-- whether two contents are equal
abbrev pub same_content : Content → Content → Bool
same_content = eq_of_both (on (λ c. c.0) ◌==◌) (eq_of_both (on (λ c. c.1) int_eq) (on (λ c. c.2) (pointwise ◌==◌)))

pub same_content-equivalence : IsEquivalence same_content
same_content-equivalence =
    and_equiv (on_equiv (λ c. c.0) nat_eq_equiv) (and_equiv (on_equiv (λ c. c.1) int_eq_equiv) (on_equiv (λ c. c.2) nat_list_eq_equiv))

-- whether two keys are equal
abbrev pub same_key : Key → Key → Bool
same_key = eq_of_both (on (λ key. key.0) ◌==◌) (on (λ key. key.1) same_content)

pub same_key-equivalence : IsEquivalence same_key
same_key-equivalence = and_equiv (on_equiv (λ key. key.0) nat_eq_equiv) (on_equiv (λ key. key.1) same_content-equivalence)
