use Rattle.std.proofs.Common.{◌≡◌, ◌≤◌, vec_len}
use Rattle.std.specs.List.{All}
use Rattle.starlark_parse_held.specs.Held.{expression_of}
use Rattle.starlark_parse_build.specs.Operations.{bytes, negated}
use Rattle.starlark_parse_build.proofs.operations.negated.Given as goal

abbrev pub invariant-negating : goal.invariant-negating
invariant-negating l =
    All (λ b. b ≤ l.end.byte) (bytes l.begins.items)
    × (l.operand.tree.value.span.end.byte ≤ l.end.byte)
    × (l.fn.operand.tree.value.span.end.byte ≤ l.operand.tree.value.span.end.byte)
    × (negated (bytes l.begins.items) l.end.byte (expression_of l.operand) ≡ negated (bytes l.fn.begins.items) l.end.byte (expression_of l.fn.operand))

abbrev pub decreases-negating : goal.decreases-negating
decreases-negating l = vec_len l.begins
