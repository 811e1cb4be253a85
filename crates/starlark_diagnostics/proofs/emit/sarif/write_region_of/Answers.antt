use Rattle.starlark_diagnostics.proofs.AddsLemmas.{one, next}
use Rattle.starlark_diagnostics.proofs.emit.sarif.write_region_of.Goals as goal

pub returns : goal.returns
returns c = next (one c.in_ok-key.ensures) (next c.in_ok-write_ends.ensures (one c.end_object.ensures))
