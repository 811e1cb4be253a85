use Rattle.std.proofs.Common.{ℕ, ◌+◌, ◌<◌, ◌≤◌, get_or}
use Rattle.starlark_module.specs.declared.comments.lint_suppressions.SuppressionInfo.{SuppressionInfo}
use Rattle.starlark_module.proofs.comments.lint_suppressions.is_in_order.Given as goal

abbrev pub invariant-pairs : goal.invariant-pairs
invariant-pairs l = record {
  begins : (k : ℕ) (d : SuppressionInfo) → k + 1 < l.next → (get_or l.suppressions k d).effective_span.begin.byte ≤
      (get_or l.suppressions (k + 1) d).effective_span.begin.byte;
  ends : (k : ℕ) (d : SuppressionInfo) → k + 1 < l.next → (get_or l.suppressions k d).effective_span.end.byte ≤
      (get_or l.suppressions (k + 1) d).effective_span.end.byte;
}
