use Rattle.starlark_spec.proofs.OneAnswer.{one_answer}
use Rattle.starlark_spec.proofs.laws.items_have_one_answer.Goals as goal

pub returns : goal.returns
returns c = one_answer
