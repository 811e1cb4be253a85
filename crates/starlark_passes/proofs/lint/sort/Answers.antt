use Rattle.std.proofs.Common.{◌≡◌, ℕ, rules, ap, map, ◌∙◌}
use Rattle.std.proofs.lemmas.List.Sorted.{answers_always, IsNonDecreasingBy-from_sort}
use Rattle.std.proofs.lemmas.Result.{on_ok_weaker}
use Rattle.starlark_passes.specs.Lint.Found.{issue_of}
use Rattle.starlark_passes.specs.Lint.LintIssues.{begins}
use Rattle.starlark_passes.proofs.LintLemmas.Sorted.{map-sorted, sorted_from_sort}
use Rattle.starlark_passes.specs.declared.lint.Issue.{Issue}
use Rattle.starlark_passes.proofs.lint.sort.Goals as goal

abbrev key : Issue → ℕ
key i = i.span.begin.byte

pub returns : goal.returns
returns c =
    let keys = answers_always _ (λ a r. r ≡ key a.0.now) _ (λ f a r next called. search rules) in
    let stable = c.sort_by_key.ensures.stable key keys in
    on_ok_weaker c.sort_by_key.result
    (λ sorted. ap (map issue_of) (sorted_from_sort key _ _ (IsNonDecreasingBy-from_sort key _ (sorted key keys)) stable)
    ∙ map-sorted issue_of begins c.args.found.now.items)
    c.sort_by_key.ensures.sorted
