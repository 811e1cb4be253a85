-- What the items of a cursor are.
use Rattle.std.proofs.Common.{◌≡◌, ℕ, false, String, Global, refl, ap, ◌∙◌}
use Rattle.starlark_lexer.specs.Tokens.{from_to, terminal}
use Rattle.starlark_lexer.specs.declared.token.Token.{Token}
use Rattle.starlark_lexer.specs.declared.token.Token.TheVariants as codes
use Rattle.starlark_spec.specs.Items.{is_comment}

pub no_comment : (t : Token) → ((x : String Global) → t ≡ codes.Comment x → ⊥) → is_comment (terminal t) ≡ false
no_comment (codes.Comment x) h = absurd (h x refl)
no_comment t h = refl

pub same_spans : {a b c d : ℕ} → a ≡ c → b ≡ d → from_to a b ≡ from_to c d
same_spans {b = b} {c = c} g h = ap (λ x. from_to x b) g ∙ ap (λ x. from_to c x) h
