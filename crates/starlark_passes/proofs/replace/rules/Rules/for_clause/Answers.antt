use Rattle.starlark_passes.proofs.ReplaceLemmas.PartLaws.{expression_law, target_law}
use Rattle.starlark_passes.proofs.ReplaceLemmas.Steps.{joined, stopped}
use Rattle.starlark_passes.proofs.ReplaceLemmas.Shapes.{in_for}
use Rattle.starlark_passes.proofs.replace.rules.Rules.for_clause.Goals as goal

pub returns-in_err-target : goal.returns-in_err-target
returns-in_err-target g c = in_for (stopped (expression_law _) c.in_err-target.ensures _ c.from_residual.result c.from_residual.ensures.0)

pub returns : goal.returns
returns g c = in_for (joined (target_law _) c.in_ok-target.ensures c.one.ensures)
