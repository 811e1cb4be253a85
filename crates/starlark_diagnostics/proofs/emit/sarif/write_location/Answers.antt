use Rattle.starlark_diagnostics.proofs.AddsLemmas.{one, next}
use Rattle.starlark_diagnostics.proofs.emit.sarif.write_location.Goals as goal

pub returns : goal.returns
returns c = next (one c.in_ok-begin_object.ensures) (next c.in_ok-write_physical.ensures (one c.end_object.ensures))
