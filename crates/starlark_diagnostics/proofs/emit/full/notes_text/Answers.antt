use Rattle.std.proofs.Common.{ap, flat_map, sym, ◌∙◌}
use Rattle.std.proofs.lemmas.List.{take_all}
use Rattle.std.proofs.lemmas.List.Folds.{flat_map-map}
use Rattle.starlark_diagnostics.specs.Ends.{file_of}
use Rattle.starlark_diagnostics.specs.Full.{note_text}
use Rattle.starlark_diagnostics.specs.DiagnosticViews.{note_seen}
use Rattle.starlark_diagnostics.proofs.emit.full.notes_text.Goals as goal

pub returns : goal.returns
returns c =
    let f = note_text c.args.path.now (file_of c.args.codemap) in
    c.loop-note.invariant ∙ ap (flat_map (λ n. f (note_seen n))) (take_all c.loop-note.note-index c.args.notes.now c.loop-note-test.false)
    ∙ sym (flat_map-map f note_seen c.args.notes.now)
