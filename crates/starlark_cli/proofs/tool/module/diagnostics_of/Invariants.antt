use Rattle.std.proofs.Common.{◌≡◌, map, take}
use Rattle.starlark_diagnostics.specs.DiagnosticViews.{seen}
use Rattle.starlark_passes.specs.Lint.Found.{issue_of}
use Rattle.starlark_cli.specs.Tool.Modules.{head_of, issue_head}
use Rattle.starlark_cli.proofs.tool.module.diagnostics_of.Given as goal

abbrev pub invariant-loop-issue : goal.invariant-loop-issue
invariant-loop-issue l =
    map (λ d. head_of (seen d)) l.diagnostics.items ≡ map (λ i. issue_head (issue_of i)) (take l.issue-index l.fn.issues)
