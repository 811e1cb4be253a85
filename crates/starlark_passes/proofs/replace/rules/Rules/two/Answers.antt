use Rattle.starlark_passes.proofs.ReplaceLemmas.PartLaws.{expression_law}
use Rattle.starlark_passes.proofs.ReplaceLemmas.Steps.{joined, stopped}
use Rattle.starlark_passes.proofs.replace.rules.Rules.two.Goals as goal

pub returns-in_err-one : goal.returns-in_err-one
returns-in_err-one g c = stopped (expression_law _) c.in_err-one.ensures _ c.from_residual.result c.from_residual.ensures.0

pub returns : goal.returns
returns g c = joined (expression_law _) c.in_ok-one.ensures c.one-2.ensures
