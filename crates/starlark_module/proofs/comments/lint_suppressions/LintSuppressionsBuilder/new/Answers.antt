use Rattle.starlark_module.proofs.CommentsLemmas.Reading.{read_nothing}
use Rattle.starlark_module.proofs.comments.lint_suppressions.LintSuppressionsBuilder.new.Goals as goal

pub returns : goal.returns
returns c = λ text. rw (c.new.ensures.items) (read_nothing text)
