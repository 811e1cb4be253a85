use Rattle.starlark_validate.proofs.OneAnswer.{one_answer}
use Rattle.starlark_validate.proofs.laws.items_have_one_answer.Goals as goal

pub returns : goal.returns
returns c = one_answer
