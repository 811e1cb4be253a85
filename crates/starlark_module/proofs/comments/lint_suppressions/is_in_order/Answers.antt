use Rattle.std.proofs.Common.{ℕ, arith}
use Rattle.std.proofs.lemmas.List.Sorted.{IsNonDecreasingBy-from_all_adjacent}
use Rattle.starlark_module.specs.declared.comments.lint_suppressions.SuppressionInfo.{SuppressionInfo}
use Rattle.starlark_module.proofs.CommentsLemmas.Window.{pairs-more}
use Rattle.starlark_module.proofs.comments.lint_suppressions.is_in_order.Goals as goal

pub pairs-preserved : goal.pairs-preserved
pairs-preserved c =
    let order = c.is_before.ensures.0 c.if-not-is_before.false in
    let more = λ (n : SuppressionInfo → ℕ). pairs-more n c.args.suppressions.now c.pairs.next c.index-suppressions-next.result
    c.index-suppressions-next-in-pairs.result
    c.pairs.auto.next c.pairs-test.true c.index-suppressions-next.is c.index-suppressions-next-in-pairs.is in
    record {
      begins = more (λ s. s.effective_span.begin.byte) order.0 c.pairs.invariant.begins;
      ends = more (λ s. s.effective_span.end.byte) order.1 c.pairs.invariant.ends;
    }

pub returns : goal.returns
returns c = record {
  begins = λ _. IsNonDecreasingBy-from_all_adjacent (λ (s : SuppressionInfo). s.effective_span.begin.byte) _
      (λ k d within. c.pairs.invariant.begins k d (omega arith));
  ends = λ _. IsNonDecreasingBy-from_all_adjacent (λ (s : SuppressionInfo). s.effective_span.end.byte) _
      (λ k d within. c.pairs.invariant.ends k d (omega arith));
}
