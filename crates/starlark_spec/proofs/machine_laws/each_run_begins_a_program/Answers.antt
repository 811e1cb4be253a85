use Rattle.starlark_spec.proofs.CorrectAnswers.{each_begins}
use Rattle.starlark_spec.proofs.machine_laws.each_run_begins_a_program.Goals as goal

pub returns : goal.returns
returns c = each_begins
