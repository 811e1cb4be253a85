use Rattle.std.proofs.Common.{rules}
use Rattle.std.proofs.lemmas.Iterator.{cases_from_any, YieldsList-from_slice}
use Rattle.starlark_lexer.specs.Tokens.{span_of}
use Rattle.starlark_module.specs.Comments.Building.{suppression}
use Rattle.starlark_module.specs.Comments.Suppressions.{Covers}
use Rattle.starlark_module.specs.declared.comments.lint_suppressions.SuppressionInfo.{SuppressionInfo}
use Rattle.starlark_module.proofs.CommentsLemmas.Quantified.{any_by_cases, any_made, any_of_made, found, not_found}
use Rattle.starlark_module.proofs.comments.suppressed.LintSuppressions.is_suppressed.Goals as goal

pub returns : goal.returns
returns c =
    let all = c.args.self.now.suppressions.items in
    let near = c.near.result.now in
    let Covering = Covers c.args.issue_short_name.now (span_of c.args.issue_span) in
    let Here = λ (s : SuppressionInfo). Covering (suppression s) in
    let answer = any_by_cases Here _ near (cases_from_any _ _ _ Here (λ s. Here s → ⊥) c.any.ensures.ran (YieldsList-from_slice near cc)
    (λ x q k. search (rules, found)) (λ x q k. search (rules, not_found))) in
    let same = c.near.ensures c.args.issue_short_name.now in
    (λ ok. any_made suppression all Covering (same.0 (answer.0 ok)), λ some. answer.1 (same.1 (any_of_made suppression all Covering some)))
