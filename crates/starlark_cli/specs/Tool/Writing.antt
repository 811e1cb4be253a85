-- What is written of a file, and of one with an error.
use Rattle.std.specs.Prelude.{◌≡◌, ◌++◌, Bool, List, [], ◌∷◌, Option, None, codes, if◌then◌else◌}
use Rattle.std.specs.Prelude.{string_bytes, true}
use Rattle.json.specs.Json.{Json, member, no_members, string}
use Rattle.json.specs.Print.{print}
use Rattle.json.specs.Tree.{json_tokens}
use Rattle.starlark_diagnostics.specs.Emit.{diagnostic_text, separator}
use Rattle.starlark_diagnostics.specs.Files.{unreadable}
use Rattle.starlark_diagnostics.specs.DiagnosticViews.{Diagnostic}
use Rattle.starlark_diagnostics.specs.declared.emit.Format.{Format}
use Rattle.starlark_diagnostics.specs.declared.emit.Format.TheVariants as formats
use Rattle.starlark_json.specs.Answers.{versioned}
use Rattle.starlark_lexer.specs.Places.{File}
use Rattle.starlark_lexer.specs.Tokens.{Text}
use Rattle.starlark_cli.specs.declared.tool.report.Counts.{Counts}
use Rattle.starlark_cli.specs.declared.tool.report.Finding.{Finding}
use Rattle.starlark_cli.specs.declared.tool.report.Finding.TheVariants.{Clean, Failed}
use Rattle.starlark_cli.specs.declared.tool.report.Report.{Report}
use Rattle.starlark_cli.specs.declared.tool.task.Mode.{Mode}
use Rattle.starlark_cli.specs.declared.tool.task.Mode.TheVariants as modes
use Rattle.starlark_cli.specs.declared.tool.task.Task.{Task}
use Rattle.starlark_cli.specs.declared.tool.task.Turn.{Turn}

-- what is written, and counted
pub record Writes (out err : Text) (counts : Counts) (report : Report) : Type 0 where
  pub out_is : string_bytes report.out ≡ out
  pub err_is : string_bytes report.err ≡ err
  pub counts_are : report.counts ≡ counts

abbrev pub counted_as : Finding → Counts
counted_as finding = record { errors = 1; warnings = 0; finding = finding }

-- a text, of a file without an error or an issue
abbrev pub WritesText : Text → Report → Type 0
WritesText text report = Writes text [] (record { errors = 0; warnings = 0; finding = Clean }) report

-- a text, after a separator if another is before it
abbrev pub after : Text → Bool → Text → Text
after between follows text = (if follows then between else []) ++ text

-- texts one after another
abbrev pub in_turn : Text → Bool → List Text → Text
in_turn between follows [] = []
in_turn between follows (text ∷ texts) = after between follows text ++ in_turn between true texts

-- a text, in `source` and `print` after a line with the path if there are other files
abbrev pub headed : Turn → Text → Text → Text
headed turn path text = (if turn.is_one_of_many then codes "# " ++ (path ++ codes "\n") else []) ++ text

-- An error, as a diagnostic, which `check` and `lint` are asked for. The other modes write it to standard error.
abbrev pub WritesDiagnostic : Mode → Format → Bool → Text → Option File → Diagnostic → Finding → Report → Type 0
WritesDiagnostic modes.Check format follows path file d finding report =
    Writes (after (separator format) follows (diagnostic_text format path file d)) [] (counted_as finding) report
WritesDiagnostic modes.Lint format follows path file d finding report =
    Writes (after (separator format) follows (diagnostic_text format path file d)) [] (counted_as finding) report
WritesDiagnostic mode format follows path file d finding report = Writes [] (diagnostic_text formats.Full path file d) (counted_as finding) report

-- an error: in `json` its line
abbrev pub WritesError : Mode → Format → Bool → Text → Option File → Diagnostic → Text → Finding → Report → Type 0
WritesError modes.Json format follows path file d line finding report = Writes (line ++ codes "\n") [] (counted_as finding) report
WritesError mode format follows path file d line finding report = WritesDiagnostic mode format follows path file d finding report

-- the JSON of a file without a text: the kind of its error, the message and the path
abbrev pub fault_json : Text → Text → Text → Json
fault_json kind message path =
    versioned (member (codes "error") (string kind) (member (codes "message") (string message) (member (codes "file") (string path) no_members)))

abbrev pub fault_text : Text → Text → Text → Text
fault_text kind message path = print (json_tokens (fault_json kind message path))

-- what is printed of a file without a text
abbrev pub PrintsFault : Task → Turn → Text → Text → Diagnostic → Finding → Report → Type 0
PrintsFault task turn path kind d finding report =
    WritesError task.mode task.format turn.follows path None d (fault_text kind d.message path) finding report

-- of a file or folder that could not be read
abbrev pub PrintsUnread : Task → Turn → Text → Text → Report → Type 0
PrintsUnread task turn path reason report = PrintsFault task turn path (codes "Unreadable") (unreadable reason) Failed report
