use Rattle.starlark_passes.proofs.ReplaceLemmas.Loops.{each_lawful}
use Rattle.starlark_passes.proofs.ReplaceLemmas.PartLaws.{parameter_law, type_law}
use Rattle.starlark_passes.proofs.ReplaceLemmas.Steps.{joined, stopped}
use Rattle.starlark_passes.proofs.replace.binding.replace_signature.Goals as goal

pub returns-in_err-replace_parameters : goal.returns-in_err-replace_parameters
returns-in_err-replace_parameters c = stopped (type_law _) c.in_err-replace_parameters.ensures _ c.from_residual.result c.from_residual.ensures.0

pub returns : goal.returns
returns c = joined (each_lawful _ _ (parameter_law _)) c.in_ok-replace_parameters.ensures c.replace_return_type.ensures
