use Rattle.starlark_diagnostics.proofs.AddsLemmas.{one, next}
use Rattle.starlark_diagnostics.proofs.emit.object.write_diagnostic.Goals as goal

pub returns : goal.returns
returns c =
    next (one c.in_ok-begin_object.ensures)
    (next (rw c.name.ensures at c.in_ok-write_text.ensures)
    (next (rw c.name-2.ensures at c.in_ok-write_text-2.ensures)
    (next (rw c.as_str.ensures.value at c.in_ok-write_text-3.ensures)
    (next c.in_ok-write_text-4.ensures
    (next c.in_ok-write_span.ensures
    (next (rw c.ends_of-ends.ensures at c.in_ok-write_begin.ensures)
    (next (rw c.ends_of-ends.ensures at c.in_ok-write_end.ensures)
    (next (rw c.as_slice.ensures.value at c.in_ok-write_notes.ensures) (one c.end_object.ensures)))))))))
