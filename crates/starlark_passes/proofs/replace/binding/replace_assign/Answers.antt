use Rattle.starlark_passes.proofs.ReplaceLemmas.PartLaws.{both_law, expression_law, target_law, type_law}
use Rattle.starlark_passes.proofs.ReplaceLemmas.Shapes.{in_assign}
use Rattle.starlark_passes.proofs.ReplaceLemmas.Steps.{joined, stopped}
use Rattle.starlark_passes.proofs.replace.binding.replace_assign.Goals as goal

pub returns-in_err-replace_target : goal.returns-in_err-replace_target
returns-in_err-replace_target c = in_assign (stopped (both_law _ (type_law _) (expression_law _)) c.in_err-replace_target.ensures _ c.from_residual.result
    c.from_residual.ensures.0)

pub returns-in_err-replace_type : goal.returns-in_err-replace_type
returns-in_err-replace_type c = in_assign (joined (target_law _) c.in_ok-replace_target.ensures
    (stopped (expression_law _) c.in_err-replace_type.ensures _ c.from_residual-in_err-replace_type.result c.from_residual-in_err-replace_type.ensures.0))

pub returns : goal.returns
returns c = in_assign (joined (target_law _) c.in_ok-replace_target.ensures (joined (type_law _) c.in_ok-replace_type.ensures c.replace_expression.ensures))
