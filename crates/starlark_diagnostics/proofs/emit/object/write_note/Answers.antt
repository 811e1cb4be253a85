use Rattle.starlark_diagnostics.proofs.AddsLemmas.{one, next}
use Rattle.starlark_diagnostics.proofs.emit.object.write_note.Goals as goal

pub returns : goal.returns
returns c =
    next (one c.in_ok-begin_object.ensures)
    (next (rw c.as_str.ensures.value at c.in_ok-write_text.ensures)
    (next c.in_ok-write_span.ensures
    (next (rw c.ends_of-ends.ensures at c.in_ok-write_begin.ensures)
    (next (rw c.ends_of-ends.ensures at c.in_ok-write_end.ensures) (one c.end_object.ensures)))))
