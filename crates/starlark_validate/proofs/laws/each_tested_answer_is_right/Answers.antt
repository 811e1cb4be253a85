use Rattle.starlark_validate.proofs.AnswerCorrectness.{each_tested_is_right}
use Rattle.starlark_validate.proofs.laws.each_tested_answer_is_right.Goals as goal

pub returns : goal.returns
returns c = each_tested_is_right
