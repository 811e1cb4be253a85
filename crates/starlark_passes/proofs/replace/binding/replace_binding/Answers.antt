use Rattle.starlark_passes.proofs.ReplaceLemmas.PartLaws.{expression_law, target_law}
use Rattle.starlark_passes.proofs.ReplaceLemmas.Steps.{joined, stopped}
use Rattle.starlark_passes.proofs.replace.binding.replace_binding.Goals as goal

pub returns-in_err-replace_target : goal.returns-in_err-replace_target
returns-in_err-replace_target c = stopped (expression_law _) c.in_err-replace_target.ensures _ c.from_residual.result c.from_residual.ensures.0

pub returns : goal.returns
returns c = joined (target_law _) c.in_ok-replace_target.ensures c.replace_expression.ensures
