use Rattle.std.proofs.Common.{sym, ◌∙◌}
use Rattle.std.proofs.lemmas.Bool.{false≢true}
use Rattle.starlark_module.proofs.comments.lint_suppressions.SuppressionInfo.covers.Goals.{then-contains, else-contains}
use Rattle.starlark_module.proofs.comments.lint_suppressions.SuppressionInfo.covers.Goals as goal

pub returns-else-intersects : goal.returns-else-intersects
returns-else-intersects c = (
  λ covers. absurd (false≢true (sym c.if-intersects.false ∙ covers)),
  λ covers. absurd (elim c.if-contains.branch [
    | then-contains w ↦ false≢true (sym (sym w.value-is ∙ c.if-intersects.false) ∙ w.intersects.ensures.1 covers.met)
    | else-contains w ↦ false≢true (sym w.if-contains.false ∙ c.contains.ensures.1 covers.named)
  ]),
)
