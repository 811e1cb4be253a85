use Rattle.starlark_diagnostics.proofs.AddsLemmas.{one, next}
use Rattle.starlark_diagnostics.proofs.emit.sarif.write_locations.Goals as goal

pub returns : goal.returns
returns c =
    next (one c.in_ok-key.ensures) (next (one c.in_ok-begin_array.ensures) (next c.in_ok-write_location.ensures (one c.end_array.ensures)))
