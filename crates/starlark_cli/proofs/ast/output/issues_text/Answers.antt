use Rattle.std.proofs.Common.{[], map, ap, ◌∙◌, string_bytes, ◌++◌}
use Rattle.std.proofs.lemmas.List.Folds.{flat_map-map}
use Rattle.starlark_cli.specs.Ast.Output.{issue_line}
use Rattle.starlark_passes.specs.Lint.Found.{issue_of}
use Rattle.starlark_passes.proofs.OutlineLemmas.Outlines.{one_more, all_parts}
use Rattle.starlark_cli.proofs.ast.output.issues_text.Goals as goal

pub loop-issue-preserved : goal.loop-issue-preserved
loop-issue-preserved c =
    one_more (λ i. issue_line c.args.ast.now.codemap.text (issue_of i)) c.deref-issue-items.result.now c.loop-issue.issue-index c.issue-item.result [] _ _
    c.loop-issue-test.true c.issue-item.is c.loop-issue.invariant
    (c.in_ok-add_issue.ensures ∙ ap (λ f. string_bytes c.loop-issue.text ++ issue_line f.text (issue_of c.issue-item.result)) c.codemap.ensures)

pub returns : goal.returns
returns c = record {
  left = map issue_of c.in_ok-issues.issues.items;
  without_quiet = c.in_ok-issues.ensures.found;
  lines =
      all_parts (λ i. issue_line c.args.ast.now.codemap.text (issue_of i)) c.deref-issue-items.result.now c.in_ok-issues.issues.items c.loop-issue.issue-index
      [] _ _ c.loop-issue-test.false c.deref-issue-items.ensures.value
      (flat_map-map (issue_line c.args.ast.now.codemap.text) issue_of c.in_ok-issues.issues.items) c.loop-issue.invariant;
}
