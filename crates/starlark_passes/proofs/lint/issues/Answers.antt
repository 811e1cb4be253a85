use Rattle.std.proofs.Common.{◌≡◌, ◌++◌, map, ap, ◌∙◌}
use Rattle.starlark_lexer.specs.Tokens.{span_of}
use Rattle.starlark_tree.specs.Views.{statement_of}
use Rattle.starlark_passes.specs.Lint.Found.{issue_of}
use Rattle.starlark_passes.specs.Lint.LintIssues.{begins, duplicate_key, duplicate_keys, issue_at, unused_load, unused_loads}
use Rattle.starlark_passes.specs.Lint.Sorting.{sorted_by}
use Rattle.starlark_passes.proofs.LintLemmas.Named.{named}
use Rattle.starlark_passes.proofs.lint.issues.Goals as goal

pub returns : goal.returns
returns c =
    let top = statement_of c.args.top.now in
    let first : map issue_of c.add_issues.new.found.items ≡ map (issue_at unused_load) (unused_loads top) =
    c.in_ok-add_issues.ensures ∙ ap (λ l. map issue_of l ++ map (λ s. issue_at unused_load (span_of s)) c.as_slice.result.now) c.new-found.ensures.items
    ∙ named unused_load span_of c.as_slice.result.now c.in_ok-unused.unused.items (unused_loads top) c.as_slice.ensures.value c.in_ok-unused.ensures in
    let second : map (λ s. issue_at duplicate_key (span_of s)) c.as_slice-2.result.now ≡ map (issue_at duplicate_key) (duplicate_keys top) =
    named duplicate_key span_of c.as_slice-2.result.now c.in_ok-duplicates.duplicates.items (duplicate_keys top) c.as_slice-2.ensures.value
    c.in_ok-duplicates.ensures in
    c.in_ok-sort.ensures
    ∙ ap (sorted_by begins) (c.in_ok-add_issues-2.ensures ∙ (λ i. first i ++ second i))
