use Rattle.starlark_diagnostics.proofs.AddsLemmas.{one, next}
use Rattle.starlark_diagnostics.proofs.emit.sarif.write_note.Goals as goal

pub returns : goal.returns
returns c =
    next (one c.in_ok-begin_object.ensures)
    (next (rw c.as_str.ensures.value at c.in_ok-write_message.ensures)
    (next (rw c.ends_of.ensures at c.in_ok-write_physical.ensures) (one c.end_object.ensures)))
