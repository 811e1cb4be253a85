use Rattle.json.specs.Tree.{json_tokens}
use Rattle.starlark_diagnostics.specs.Ends.{file_of}
use Rattle.starlark_diagnostics.specs.Sarif.{note_json}
use Rattle.starlark_diagnostics.specs.DiagnosticViews.{note_seen}
use Rattle.starlark_diagnostics.proofs.AddsLemmas.{more}
use Rattle.starlark_diagnostics.proofs.emit.sarif.write_each_note.Goals as goal

pub loop-note-preserved : goal.loop-note-preserved
loop-note-preserved c =
    more (λ n. json_tokens (note_json c.args.uri.now (file_of c.args.codemap) (note_seen n))) (record { tokens = _; before = _; spare = 0 }) _ _ _ _ _
    c.loop-note-test.true c.note-item.is c.loop-note.invariant c.in_ok-write_note.ensures
