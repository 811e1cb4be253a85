use Rattle.starlark_diagnostics.specs.Ends.{file_of}
use Rattle.starlark_diagnostics.specs.Json.{note_json}
use Rattle.starlark_diagnostics.proofs.AddsLemmas.{one, next}
use Rattle.starlark_diagnostics.proofs.Notes.{listed}
use Rattle.starlark_diagnostics.proofs.emit.object.write_notes.Goals as goal

pub returns : goal.returns
returns c =
    rw (listed (note_json (file_of c.args.codemap)) c.args.notes.now)
    (next (one c.in_ok-key.ensures)
    (next (one c.in_ok-begin_array.ensures) (next c.in_ok-write_each_note.ensures (one c.end_array.ensures))))
