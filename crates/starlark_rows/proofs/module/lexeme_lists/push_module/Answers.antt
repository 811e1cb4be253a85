use Rattle.std.proofs.Common.{rules}
use Rattle.std.specs.Iterator.{YieldsFirst}
use Rattle.starlark_module.proofs.LexemeListLaws.{handed_on_in_order}
use Rattle.starlark_module.specs.LexemeLists.{lexemes_left}
use Rattle.starlark_rows.proofs.module.lexeme_lists.push_module.Goals as goal

pub from_lexemes-answer-requires-clause-ordered : goal.from_lexemes-answer-requires-clause-ordered
from_lexemes-answer-requires-clause-ordered c = handed_on_in_order (λ counted. counted.lexemes) (YieldsFirst lexemes_left) _ 0 (search rules)
