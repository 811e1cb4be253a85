use Rattle.std.proofs.Common.{◌∙◌}
use Rattle.starlark_module.proofs.CommentsLemmas.Reading.{suppressed}
use Rattle.starlark_module.proofs.comments.lint_suppressions.LintSuppressionsBuilder.build.Goals as goal

pub returns : goal.returns
returns c = λ text lexemes r. c.new.ensures ∙ suppressed text r
