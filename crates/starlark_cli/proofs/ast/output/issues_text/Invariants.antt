use Rattle.std.proofs.Common.{◌≡◌, string_bytes, take}
use Rattle.std.specs.List.{flat_map}
use Rattle.starlark_cli.specs.Ast.Output.{issue_line}
use Rattle.starlark_passes.specs.Lint.Found.{issue_of}
use Rattle.starlark_cli.proofs.ast.output.issues_text.Given as goal

abbrev pub invariant-loop-issue : goal.invariant-loop-issue
invariant-loop-issue l = string_bytes l.text ≡ flat_map (λ i. issue_line l.fn.ast.codemap.text (issue_of i)) (take l.issue-index l.issue-items)
