use Rattle.std.proofs.Common.{◌≡◌, rules, map, ap, ◌∙◌}
use Rattle.starlark_module.specs.Comments.Building.{suppressions_in}
use Rattle.starlark_module.specs.Comments.Suppressions.{IsCovered}
use Rattle.starlark_passes.specs.Lint.Found.{issue_of}
use Rattle.starlark_passes.specs.Lint.LintIssues.{issues}
use Rattle.starlark_passes.proofs.LintLemmas.Left.{without_from_retain}
use Rattle.starlark_tree.specs.Views.{statement_of}
use Rattle.starlark_module.proofs.lint.lint.Goals as goal

pub returns-clause-found : goal.returns-clause-found
returns-clause-found c =
    rw (c.in_ok-found.ensures ∙ ap (λ s. issues (statement_of s)) c.statement.ensures)
    at (without_from_retain _ issue_of (λ i. IsCovered (suppressions_in c.args.ast.now.suppressions) i.name i.span) _ (λ x b f called. search rules) _ _
    c.retain.ensures.filtered)
