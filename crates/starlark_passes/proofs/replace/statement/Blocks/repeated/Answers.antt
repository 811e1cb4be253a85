use Rattle.starlark_passes.proofs.ReplaceLemmas.PartLaws.{both_law, expression_law, statement_law, target_law}
use Rattle.starlark_passes.proofs.ReplaceLemmas.Shapes.{in_repeated}
use Rattle.starlark_passes.proofs.ReplaceLemmas.Steps.{joined, stopped}
use Rattle.starlark_passes.proofs.replace.statement.Blocks.repeated.Goals as goal

pub returns-in_err-replace_binding : goal.returns-in_err-replace_binding
returns-in_err-replace_binding g c = in_repeated (stopped (statement_law _) c.in_err-replace_binding.ensures _ c.from_residual.result c.from_residual.ensures.0)

pub returns : goal.returns
returns g c = rw (← c.deref_mut.ensures.value) (in_repeated (joined (both_law _ (target_law _) (expression_law _)) c.in_ok-replace_binding.ensures
    c.one.ensures))
