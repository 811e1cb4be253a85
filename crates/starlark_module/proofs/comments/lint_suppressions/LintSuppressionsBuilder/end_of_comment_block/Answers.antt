use Rattle.starlark_module.proofs.CommentsLemmas.Reading.{block_ends}
use Rattle.starlark_module.proofs.comments.lint_suppressions.LintSuppressionsBuilder.end_of_comment_block.Goals as goal

pub returns : goal.returns
returns c = λ text lexemes x other r. block_ends r x other
