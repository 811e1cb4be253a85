use Rattle.starlark_passes.proofs.ReplaceLemmas.PartLaws.{both_law, expression_law, maybe_law}
use Rattle.starlark_passes.proofs.ReplaceLemmas.Steps.{joined, stopped}
use Rattle.starlark_passes.proofs.replace.rules.Rules.slice.Goals as goal

pub returns-in_err-one : goal.returns-in_err-one
returns-in_err-one g c = stopped (both_law _ (maybe_law _) (both_law _ (maybe_law _) (maybe_law _))) c.in_err-one.ensures _ c.from_residual.result
    c.from_residual.ensures.0

pub returns-in_err-maybe : goal.returns-in_err-maybe
returns-in_err-maybe g c = joined (expression_law _) c.in_ok-one.ensures
    (stopped (both_law _ (maybe_law _) (maybe_law _)) c.in_err-maybe.ensures _ c.from_residual-in_err-maybe.result c.from_residual-in_err-maybe.ensures.0)

pub returns-in_err-maybe-2 : goal.returns-in_err-maybe-2
returns-in_err-maybe-2 g c = joined (expression_law _) c.in_ok-one.ensures
    (joined (maybe_law _) c.in_ok-maybe.ensures (stopped (maybe_law _) c.in_err-maybe-2.ensures _ c.from_residual-in_err-maybe-2.result
    c.from_residual-in_err-maybe-2.ensures.0))

pub returns : goal.returns
returns g c = joined (expression_law _) c.in_ok-one.ensures
    (joined (maybe_law _) c.in_ok-maybe.ensures (joined (maybe_law _) c.in_ok-maybe-2.ensures c.maybe-3.ensures))
