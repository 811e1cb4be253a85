use Rattle.starlark_spec.proofs.Termination.{each_is_answered}
use Rattle.starlark_spec.proofs.laws.each_list_is_answered.Goals as goal

pub returns : goal.returns
returns c = each_is_answered
