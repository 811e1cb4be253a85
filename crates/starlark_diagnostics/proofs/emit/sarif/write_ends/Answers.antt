use Rattle.starlark_diagnostics.proofs.AddsLemmas.{one, next}
use Rattle.starlark_diagnostics.proofs.emit.sarif.write_ends.Goals as goal

pub returns : goal.returns
returns c =
    next (one c.in_ok-begin_object.ensures)
    (next (rw c.line_number.ensures at c.in_ok-write_count.ensures)
    (next (rw c.column_number.ensures at c.in_ok-write_count-2.ensures)
    (next (rw c.line_number-2.ensures at c.in_ok-write_count-3.ensures)
    (next (rw c.column_number-2.ensures at c.in_ok-write_count-4.ensures) (one c.end_object.ensures)))))
