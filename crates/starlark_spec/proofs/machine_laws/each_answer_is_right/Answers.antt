use Rattle.starlark_spec.proofs.CorrectAnswers.{each_is_right}
use Rattle.starlark_spec.proofs.machine_laws.each_answer_is_right.Goals as goal

pub returns : goal.returns
returns c = each_is_right
