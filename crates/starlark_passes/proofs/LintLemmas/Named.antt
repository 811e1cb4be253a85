-- Issues of one name.
use Rattle.std.proofs.Common.{◌≡◌, List, [], ◌∷◌, map, refl, ap, ◌∙◌}
use Rattle.starlark_lexer.specs.Tokens.{Span, Text}
use Rattle.starlark_passes.specs.Lint.LintIssues.{issue_at}

seen_first : {A : Type 0} (name : Text) (seen : A → Span) (xs : List A) → map (λ x. issue_at name (seen x)) xs ≡ map (issue_at name) (map seen xs)
seen_first name seen [] = refl
seen_first name seen (x ∷ xs) = ap (λ l. issue_at name (seen x) ∷ l) (seen_first name seen xs)

pub named : {A : Type 0} (name : Text) (seen : A → Span) (held items : List A) (spans : List Span) → held ≡ items → map seen items ≡ spans
    → map (λ x. issue_at name (seen x)) held ≡ map (issue_at name) spans
named name seen held items spans e f = ap (map (λ x. issue_at name (seen x))) e ∙ seen_first name seen items ∙ ap (map (issue_at name)) f
