use Rattle.std.proofs.Common.{◌≡◌, ◌++◌, map, take}
use Rattle.starlark_lexer.specs.Tokens.{span_of}
use Rattle.starlark_passes.specs.Lint.Found.{issue_of}
use Rattle.starlark_passes.specs.Lint.LintIssues.{issue_at}
use Rattle.starlark_passes.proofs.lint.add_issues.Given as goal

abbrev pub invariant-loop-span : goal.invariant-loop-span
invariant-loop-span l = map issue_of l.found.items ≡ map issue_of l.fn.found.items ++ map (λ s. issue_at l.name (span_of s)) (take l.span-index l.spans)
