use Rattle.std.proofs.Common.{◌≡◌, ◌++◌, take}
use Rattle.std.specs.List.{flat_map}
use Rattle.json.specs.Tree.{json_tokens}
use Rattle.starlark_diagnostics.specs.Ends.{file_of}
use Rattle.starlark_diagnostics.specs.Sarif.{note_json}
use Rattle.starlark_diagnostics.specs.DiagnosticViews.{note_seen}
use Rattle.starlark_diagnostics.proofs.emit.sarif.write_each_note.Given as goal

abbrev pub invariant-loop-note : goal.invariant-loop-note
invariant-loop-note l =
    (l.out.tokens ≡ l.initial.out.tokens ++ flat_map (λ n. json_tokens (note_json l.uri (file_of l.codemap) (note_seen n))) (take l.note-index l.notes))
    × (l.out.before ≡ l.initial.out.before)
