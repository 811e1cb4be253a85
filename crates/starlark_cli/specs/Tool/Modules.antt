-- What is printed of the text of a file.
use Rattle.std.specs.Prelude.{◌≡◌, ◌⊎◌, ◌++◌, ℕ, Bool, List, [], Option, Some, Result, Ok, Err, codes, flat_map}
use Rattle.std.specs.Prelude.{length, map, option_map, suc, zero}
use Rattle.json.specs.Print.{print}
use Rattle.json.specs.Tree.{json_tokens}
use Rattle.starlark_checks.specs.Refusals.{Refusal}
use Rattle.starlark_depth.specs.Limited.{limited}
use Rattle.starlark_diagnostics.specs.Codes as codes_of_errors
use Rattle.starlark_diagnostics.specs.Emit.{diagnostic_text, separator}
use Rattle.starlark_diagnostics.specs.Files.{file_error}
use Rattle.starlark_diagnostics.specs.Issues.{issue_code}
use Rattle.starlark_diagnostics.specs.ErrorMessages.{Says}
use Rattle.starlark_diagnostics.specs.DiagnosticViews.{Diagnostic}
use Rattle.starlark_diagnostics.specs.declared.code.Code.{Code}
use Rattle.starlark_diagnostics.specs.declared.code.Code.TheVariants as code
use Rattle.starlark_diagnostics.specs.declared.diagnostic.Severity.{Severity}
use Rattle.starlark_diagnostics.specs.declared.diagnostic.Severity.TheVariants as severity
use Rattle.starlark_diagnostics.specs.declared.emit.Format.{Format}
use Rattle.starlark_diagnostics.specs.declared.emit.Format.TheVariants as formats
use Rattle.starlark_json.specs.Answers.{error_json}
use Rattle.starlark_json.specs.Texts.{RefusesText, module_text}
use Rattle.starlark_lexer.specs.Lexemes.{lexemes}
use Rattle.starlark_lexer.specs.Places.{File}
use Rattle.starlark_lexer.specs.Tokens.{Span, Text}
use Rattle.starlark_lexer.specs.declared.dialect.Dialect.{Dialect}
use Rattle.starlark_module.specs.Comments.Keeping.{comment_spans}
use Rattle.starlark_module.specs.Comments.Suppressions.{IsCovered, Suppression, suppressions}
use Rattle.starlark_passes.specs.Lint.LintIssues.{Issue, issues}
use Rattle.starlark_passes.specs.Lint.Without.{Without}
use Rattle.starlark_passes.specs.Outline.Outline.{loads}
use Rattle.starlark_source.specs.Lines.{source_of}
use Rattle.starlark_spec.specs.Items.{items}
use Rattle.starlark_tree.specs.Ast.{Statement, no_payload}
use Rattle.starlark_tree.specs.Printing.{statement_text}
use Rattle.starlark_validate.specs.Answers.{IsValidModule}
use Rattle.starlark_cli.specs.Tool.Lists.{load_line}
use Rattle.starlark_cli.specs.declared.tool.report.Counts.{Counts}
use Rattle.starlark_cli.specs.declared.tool.report.Finding.{Finding}
use Rattle.starlark_cli.specs.declared.tool.report.Finding.TheVariants.{Clean, Faulty}
use Rattle.starlark_cli.specs.declared.tool.report.Report.{Report}
use Rattle.starlark_cli.specs.declared.tool.task.Mode.{Mode}
use Rattle.starlark_cli.specs.declared.tool.task.Mode.TheVariants as modes
use Rattle.starlark_cli.specs.declared.tool.task.Task.{Task}
use Rattle.starlark_cli.specs.declared.tool.task.Turn.{Turn}
use Rattle.starlark_cli.specs.Tool.Writing.{Writes, counted_as, WritesText, in_turn, headed, WritesDiagnostic}

-- what does not depend on how a diagnostic says it
pub record Head : Type 0 where
  pub code : Code
  pub severity : Severity
  pub span : Option Span

abbrev pub head_of : Diagnostic → Head
head_of d = record { code = d.code; severity = d.severity; span = d.span }

-- an issue is a warning at its span
abbrev pub issue_head : Issue → Head
issue_head i = record { code = issue_code i.name; severity = severity.Warning; span = Some i.span }

-- a file with issues is at fault
abbrev pub finding_of : ℕ → Finding
finding_of zero = Clean
finding_of (suc n) = Faulty

-- what is counted of a file with so many issues
abbrev pub issue_counts : ℕ → Counts
issue_counts n = record { errors = 0; warnings = n; finding = finding_of n }

-- the issues that no comment suppresses, each as a diagnostic
pub record PrintsIssues (format : Format) (follows : Bool) (file : File) (quiet : List Suppression) (s : Statement no_payload) (report : Report) : Type 0 where
  pub left : List Issue
  pub without_quiet : Without (λ i. IsCovered quiet i.name i.span) (issues s) left
  pub diagnostics : List Diagnostic
  pub are_issues : map head_of diagnostics ≡ map issue_head left
  pub writes : Writes (in_turn (separator format) follows (map (diagnostic_text format file.name (Some file)) diagnostics)) []
      (issue_counts (length left)) report

-- the diagnostic of a part of a tree that no source says
abbrev pub not_source : Span → Diagnostic
not_source span = record (file_error code.NotSource (codes "no Starlark source says this")) { span = Some span }

-- the source of a module, or the first part of it that no source says
abbrev pub PrintsSaid : Turn → File → Result Text Span → Report → Type 0
PrintsSaid turn file (Ok source) report = WritesText (headed turn file.name source) report
PrintsSaid turn file (Err span) report = Writes [] (diagnostic_text formats.Full file.name (Some file) (not_source span)) (counted_as Faulty) report

-- what a mode prints of a module in a file, with these comments and what they suppress
abbrev pub PrintsMode : Mode → Format → Turn → File → List Span → List Suppression → Statement no_payload → Report → Type 0
PrintsMode modes.Check format turn file comments quiet s report = WritesText [] report
PrintsMode modes.Lint format turn file comments quiet s report = PrintsIssues format turn.follows file quiet s report
PrintsMode modes.Loads format turn file comments quiet s report = WritesText (flat_map (load_line file) (loads s)) report
PrintsMode modes.Json format turn file comments quiet s report = WritesText (module_text file.name comments s ++ codes "\n") report
PrintsMode modes.Source format turn file comments quiet s report = PrintsSaid turn file (source_of s) report
PrintsMode modes.Print format turn file comments quiet s report = WritesText (headed turn file.name (statement_text 0 s)) report

abbrev pub PrintsModule : Task → Turn → File → List Span → List Suppression → Statement no_payload → Report → Type 0
PrintsModule task turn file comments quiet s report = PrintsMode task.mode task.format turn file comments quiet s report

-- the JSON of a refusal
abbrev pub error_line : Refusal → Text
error_line refusal = print (json_tokens (error_json refusal))

-- the diagnostic of a refusal
pub record IsRefusalOf (d : Dialect) (refusal : Refusal) (diagnostic : Diagnostic) : Type 0 where
  pub code_is : diagnostic.code ≡ codes_of_errors.code_of refusal.kind
  pub severity_is : diagnostic.severity ≡ severity.Error
  pub span_is : diagnostic.span ≡ option_map (λ p. p.span) refusal.place
  pub message_is : Says d refusal diagnostic.message

pub record PrintsDiagnosed (mode : Mode) (task : Task) (turn : Turn) (path : Text) (refusal : Refusal) (report : Report) : Type 0 where
  pub diagnostic : Diagnostic
  pub is_refusal : IsRefusalOf task.dialect refusal diagnostic
  pub writes : WritesDiagnostic mode task.format turn.follows path (option_map (λ p. p.file) refusal.place) diagnostic Faulty report

-- what a mode prints of a refusal: `json` a line, the others a diagnostic
abbrev pub PrintsRefusalIn : Mode → Task → Turn → Text → Refusal → Report → Type 0
PrintsRefusalIn modes.Json task turn path refusal report = Writes (error_line refusal ++ codes "\n") [] (counted_as Faulty) report
PrintsRefusalIn mode task turn path refusal report = PrintsDiagnosed mode task turn path refusal report

abbrev pub PrintsRefusal : Task → Turn → Text → Refusal → Report → Type 0
PrintsRefusal task turn path refusal report = PrintsRefusalIn task.mode task turn path refusal report

-- the text of a file is a module, of which this is printed; its tokens nest no deeper than the limit
pub record ReportsModule (task : Task) (turn : Turn) (file : File) (report : Report) : Type 0 where
  pub within : limited task.max_depth (lexemes file.text) ≡ lexemes file.text
  pub statement : Statement no_payload
  pub is_tree : IsValidModule task.dialect (items (lexemes file.text)) statement
  pub printed : PrintsModule task turn file (comment_spans (lexemes file.text)) (suppressions file.text (lexemes file.text)) statement report

-- it is refused, and this is printed of what refuses it
pub record ReportsRefusal (task : Task) (turn : Turn) (file : File) (report : Report) : Type 0 where
  pub refusal : Refusal
  pub refuses : RefusesText task.max_depth task.dialect file refusal
  pub printed : PrintsRefusal task turn file.name refusal report

-- what is printed of the text of the file at a path
abbrev pub PrintsText : Task → Turn → Text → Text → Report → Type 0
PrintsText task turn path text report = let file : File = record { name = path; text = text } in
    ReportsModule task turn file report ⊎ ReportsRefusal task turn file report
