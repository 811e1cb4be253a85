use Rattle.std.proofs.Common.{rules, ◌-◌, leb, ltb, arith}
use Rattle.std.proofs.lemmas.List.Sorted.{IsPartitionPoint-from_clause, IsPartitionedBy-leb, IsPartitionedBy-ltb}
use Rattle.std.specs.List.Sorted.{IsNonDecreasingBy}
use Rattle.starlark_module.specs.declared.comments.lint_suppressions.SuppressionInfo.{SuppressionInfo}
use Rattle.starlark_module.proofs.CommentsLemmas.Window.{window}
use Rattle.starlark_module.proofs.comments.suppressed.LintSuppressions.near.Goals as goal

pub returns-then-not-self : goal.returns-then-not-self
returns-then-not-self c = λ name. rw c.as_slice-all.ensures.value (λ h. h, λ h. h)

pub returns : goal.returns
returns c =
    let all = c.as_slice-all.result.now in
    let end_of = λ (s : SuppressionInfo). s.effective_span.end.byte in
    let begin_of = λ (s : SuppressionInfo). s.effective_span.begin.byte in
    let ends : IsNonDecreasingBy end_of all = rw c.as_slice-all.ensures.value (c.args.self.now.ends c.if-not-self.false) in
    let begins : IsNonDecreasingBy begin_of all = rw c.as_slice-all.ensures.value (c.args.self.now.begins c.if-not-self.false) in
    let first = IsPartitionPoint-from_clause (λ (s : SuppressionInfo). ltb s.effective_span.end.byte c.args.span.begin.byte) _ _
    c.partition_point-first.ensures.partitioned
    (IsPartitionedBy-ltb end_of all c.args.span.begin.byte ends) (λ a r q k. search rules) in
    let last = IsPartitionPoint-from_clause (λ (s : SuppressionInfo). leb s.effective_span.begin.byte c.args.span.end.byte) _ _
    c.partition_point-last.ensures.partitioned
    (IsPartitionedBy-leb begin_of all c.args.span.end.byte begins) (λ a r q k. search rules) in
    λ name. rw (← c.as_slice-all.ensures.value)
    (window all c.args.span c.partition_point-first.result c.partition_point-last.result name first.0 last.1 (c.max.result - c.partition_point-first.result)
    (omega (arith, c.max.ensures)))
