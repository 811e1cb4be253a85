use Rattle.starlark_diagnostics.proofs.AddsLemmas.{one, next}
use Rattle.starlark_diagnostics.proofs.emit.object.write_position.Goals as goal

pub returns : goal.returns
returns c =
    next (one c.in_ok-begin_object.ensures)
    (next (rw c.from.ensures at c.in_ok-write_count.ensures) (next (rw c.from-2.ensures at c.in_ok-write_count-2.ensures) (one c.end_object.ensures)))
