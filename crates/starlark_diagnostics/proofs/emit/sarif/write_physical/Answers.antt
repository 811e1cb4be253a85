use Rattle.starlark_diagnostics.proofs.AddsLemmas.{one, next}
use Rattle.starlark_diagnostics.proofs.emit.sarif.write_physical.Goals as goal

pub returns : goal.returns
returns c =
    next (one c.in_ok-key.ensures)
    (next (one c.in_ok-begin_object.ensures)
    (next (one c.in_ok-key-2.ensures)
    (next (one c.in_ok-begin_object-2.ensures)
    (next c.in_ok-write_text.ensures (next (one c.in_ok-end_object.ensures) c.write_region.ensures)))))
