use Rattle.std.proofs.Common.{◌≡◌, ℕ, false, get_or, None, refl, arith}
use Rattle.std.proofs.lemmas.Bool.{ne_eqb}
use Rattle.starlark_lexer.specs.Openings.{prefix_of, prefix, opening}
use Rattle.starlark_lexer.specs.Tokens.{Text}
use Rattle.starlark_lexer.proofs.string.opening.opening.Goals as goal

no_prefix : (first second : ℕ) → (first ≡ 98 → ⊥) → (first ≡ 102 → ⊥) → (first ≡ 114 → ⊥) → prefix first second ≡ prefix_of 0 false false false
unfolding prefix
no_prefix first second b f r = rw (ne_eqb first 114 r, ne_eqb first 98 b, ne_eqb first 102 f) refl

-- if the first byte is neither a quote nor a letter of a prefix, no literal opens
no_opening : (text : Text) → (get_or text 0 0 ≡ 34 → ⊥) → (get_or text 0 0 ≡ 39 → ⊥) → (get_or text 0 0 ≡ 98 → ⊥) → (get_or text 0 0 ≡ 102 → ⊥)
    → (get_or text 0 0 ≡ 114 → ⊥) → None ≡ opening text
unfolding opening
no_opening text double single b f r =
    rw (no_prefix (get_or text 0 0) (get_or text 1 0) b f r, ne_eqb (get_or text 0 0) 39 single, ne_eqb (get_or text 0 0) 34 double) refl

pub returns-then-first-ne114 : goal.returns-then-first-ne114
returns-then-first-ne114 c =
    let first : c.byte_at-first.result ≡ get_or c.args.rest.now 0 0 = c.byte_at-first.ensures in
    no_opening c.args.rest.now (λ e. absurd (omega arith)) (λ e. absurd (omega arith)) (λ e. absurd (omega arith)) (λ e. absurd (omega arith))
    (λ e. absurd (omega arith))
