use Rattle.starlark_validate.proofs.AnswerCorrectness.{each_is_answered}
use Rattle.starlark_validate.proofs.laws.each_list_is_answered.Goals as goal

pub returns : goal.returns
returns c = each_is_answered
