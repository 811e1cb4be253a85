-- A diagnostic with the lines of its span and its notes.
use Rattle.std.specs.Prelude.{◌++◌, [], Option, Some, None, codes, flat_map}
use Rattle.starlark_lexer.specs.Places.{File}
use Rattle.starlark_lexer.specs.Tokens.{Span, Text}
use Rattle.starlark_diagnostics.specs.Ends.{ends_of}
use Rattle.starlark_diagnostics.specs.DiagnosticViews.{Diagnostic, Note}
use Rattle.starlark_diagnostics.specs.Short.{at_text, short_text}
use Rattle.starlark_diagnostics.specs.Snippet.{snippet}

-- the lines of a span of a file, if there are both
abbrev pub lines_of : Option File → Option Span → Text
lines_of None span = []
lines_of (Some file) None = []
lines_of (Some file) (Some span) = snippet file.text span

-- a note at a span, or help
abbrev pub note_at : Text → Option File → Text → Option Span → Text
note_at path file message None = codes "     = help: " ++ (message ++ codes "\n")
note_at path file message (Some span) =
    at_text path (ends_of file (Some span)) ++ (codes ": note: " ++ (message ++ (codes "\n" ++ lines_of file (Some span))))

abbrev pub note_text : Text → Option File → Note → Text
note_text path file n = note_at path file n.message n.span

abbrev pub full_text : Text → Option File → Diagnostic → Text
full_text path file d = short_text path (ends_of file d.span) d ++ (lines_of file d.span ++ flat_map (note_text path file) d.notes)
