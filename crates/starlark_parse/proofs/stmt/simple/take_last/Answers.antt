use Rattle.std.proofs.Common.{[], ◌∷◌, ◌++◌, sym, ap, ◌∙◌}
use Rattle.starlark_tree.specs.Views.{statement_of}
use Rattle.starlark_parse.proofs.StmtLemmas.SimpleStatements.{lasts_same, no_last}
use Rattle.starlark_parse.proofs.stmt.simple.take_last.Goals as goal

pub returns-in_default : goal.returns-in_default
returns-in_default c = λ before last e. absurd (no_last before last (sym c.in_default.ensures.none ∙ e))

pub returns : goal.returns
returns c = λ before last e.
    let same = lasts_same _ before (sym c.in-Some.ensures.some ∙ e) in
    (same.0, c.in_ok-push_tree.ensures ∙ ap (λ xs. xs ++ statement_of c.in-Some.last.tree ∷ []) c.new-taken.ensures ∙ ap (λ x. x ∷ []) same.1)
