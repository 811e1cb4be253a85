use Rattle.starlark_passes.proofs.ReplaceLemmas.PartLaws.{maybe_law, type_law}
use Rattle.starlark_passes.proofs.ReplaceLemmas.Steps.{joined, stopped}
use Rattle.starlark_passes.proofs.replace.rules.Rules.typed.Goals as goal

pub returns-in_err-annotation : goal.returns-in_err-annotation
returns-in_err-annotation g c = stopped (maybe_law _) c.in_err-annotation.ensures _ c.from_residual.result c.from_residual.ensures.0

pub returns : goal.returns
returns g c = joined (type_law _) c.in_ok-annotation.ensures c.maybe.ensures
