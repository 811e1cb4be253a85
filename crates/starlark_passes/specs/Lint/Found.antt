-- What was found, as it is in memory.
use denote.Ref.{Bor}
use Rattle.starlark_lexer.specs.Tokens.{Text, span_of}
use Rattle.starlark_passes.specs.Lint.LintIssues.{Issue}
use Rattle.starlark_passes.specs.declared.lint.Issue.{Issue as CodeIssue}

abbrev pub issue_of : CodeIssue → Issue
issue_of i = record { name = i.name.now; span = span_of i.span }

abbrev pub text_of : Bor Text → Text
text_of r = r.now
