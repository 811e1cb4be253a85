use Rattle.std.proofs.Common.{◌≡◌, flat_map, string_bytes, take}
use Rattle.starlark_diagnostics.specs.Ends.{file_of}
use Rattle.starlark_diagnostics.specs.Full.{note_text}
use Rattle.starlark_diagnostics.specs.DiagnosticViews.{note_seen}
use Rattle.starlark_diagnostics.proofs.emit.full.notes_text.Given as goal

abbrev pub invariant-loop-note : goal.invariant-loop-note
invariant-loop-note l = string_bytes l.text ≡ flat_map (λ n. note_text l.path (file_of l.codemap) (note_seen n)) (take l.note-index l.notes)
