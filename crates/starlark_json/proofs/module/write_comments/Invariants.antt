use Rattle.std.proofs.Common.{◌≡◌, ◌++◌, take}
use Rattle.std.specs.List.{flat_map}
use Rattle.starlark_json.specs.Answers.{code_span_tokens}
use Rattle.starlark_json.proofs.module.write_comments.Given as goal

abbrev pub invariant-loop-comment : goal.invariant-loop-comment
invariant-loop-comment l =
    (l.out.tokens ≡ l.initial.out.tokens ++ flat_map code_span_tokens (take l.comment-index l.comments)) × (l.out.before ≡ l.initial.out.before)
