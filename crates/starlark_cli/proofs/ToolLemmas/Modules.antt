-- The reports on the issues of a module, and on a part of it that no source says.
use Rattle.std.proofs.Common.{◌≡◌, ◌∙◌, ℕ, List, [], Some, Result, Err, IfOk, ap, length, map, subst, sym}
use Rattle.std.specs.Prelude.{Bool}
use Rattle.std.proofs.lemmas.List.{length-map}
use Rattle.std.proofs.lemmas.Simd.{map-map}
use Rattle.starlark_diagnostics.specs.Emit.{diagnostic_text, separator}
use Rattle.starlark_diagnostics.specs.DiagnosticViews.{Diagnostic, seen}
use Rattle.starlark_diagnostics.specs.declared.diagnostic.Diagnostic.{Diagnostic as CodeDiagnostic}
use Rattle.starlark_diagnostics.specs.declared.emit.Format.{Format}
use Rattle.starlark_diagnostics.specs.declared.emit.Format.TheVariants as formats
use Rattle.starlark_lexer.specs.Places.{File}
use Rattle.starlark_lexer.specs.Tokens.{Span, Text, span_of}
use Rattle.starlark_lexer.specs.declared.span.Span.{Span as CodeSpan}
use Rattle.starlark_module.specs.Comments.Suppressions.{IsCovered, Suppression}
use Rattle.starlark_passes.specs.Lint.Found.{issue_of}
use Rattle.starlark_passes.specs.Lint.LintIssues.{issues}
use Rattle.starlark_passes.specs.Lint.Without.{Without}
use Rattle.starlark_passes.specs.declared.lint.Issue.{Issue as CodeIssue}
use Rattle.starlark_source.specs.Lines.{FaultIs}
use Rattle.starlark_source.specs.declared.error.SourceError.{SourceError}
use Rattle.starlark_source.specs.declared.error.SourceError.TheVariants as errors
use Rattle.starlark_tree.specs.Ast.{Statement, no_payload}
use Rattle.starlark_cli.specs.Tool.Modules.{Head, PrintsIssues, PrintsSaid, head_of, issue_counts, issue_head, not_source}
use Rattle.starlark_cli.specs.Tool.Writing.{Writes, counted_as, in_turn}
use Rattle.starlark_cli.specs.declared.tool.report.Finding.TheVariants.{Faulty}
use Rattle.starlark_cli.specs.declared.tool.report.Report.{Report}
use Rattle.starlark_cli.specs.declared.tool.task.Turn.{Turn}

-- the texts of diagnostics of a file
abbrev texts_at : Format → Text → File → List CodeDiagnostic → List Text
texts_at format path file ds = map (λ d. diagnostic_text format path (Some file) (seen d)) ds

-- the report on the issues that are left, from the diagnostics that are written of them
pub prints_issues : (format : Format) (follows : Bool) (file own : File) (path : Text) (quiet : List Suppression) (s : Statement no_payload)
    (found given : List CodeIssue) (made shown : List CodeDiagnostic) (out : Text) (n : ℕ) (report : Report)
    → own ≡ file → path ≡ own.name → given ≡ found → shown ≡ made
    → Without (λ i. IsCovered quiet i.name i.span) (issues s) (map issue_of found)
    → map (λ d. head_of (seen d)) made ≡ map (λ i. issue_head (issue_of i)) given
    → out ≡ in_turn (separator format) follows (map (λ d. diagnostic_text format path (Some own) (seen d)) shown)
    → n ≡ length made → Writes out [] (issue_counts n) report → PrintsIssues format follows file quiet s report
prints_issues format follows file own path quiet s found given made shown out n report is_file is_name is_given is_made without heads texts counted writes =
    let issue_heads : List CodeIssue → List Head = map (λ i. issue_head (issue_of i)) in
    let same : map head_of (map seen made) ≡ map issue_head (map issue_of found) =
    map-map head_of seen made ∙ heads ∙ ap issue_heads is_given ∙ sym (map-map issue_head issue_of found) in
    let as_many : length made ≡ length (map issue_of found) =
    sym (length-map made seen) ∙ sym (length-map (map seen made) head_of) ∙ ap length same ∙ length-map (map issue_of found) issue_head in
    let text_of : Diagnostic → Text = λ d. diagnostic_text format file.name (Some file) d in
    let texts_are : texts_at format path own shown ≡ map text_of (map seen made) =
    ap (λ (l : List CodeDiagnostic). texts_at format path own l) is_made ∙ ap (λ (p : Text). texts_at format p own made) is_name
    ∙ ap (λ (f : File). texts_at format f.name f made) is_file ∙ sym (map-map text_of seen made) in
    record {
      left = map issue_of found;
      without_quiet = without;
      diagnostics = map seen made;
      are_issues = same;
      writes = record {
        out_is = writes.out_is ∙ texts ∙ ap (in_turn (separator format) follows) texts_are;
        err_is = writes.err_is;
        counts_are = writes.counts_are ∙ ap issue_counts (counted ∙ as_many);
      };
    }

-- the report on a part that no source says, from its diagnostic
pub prints_unsaid : (file : File) (span : CodeSpan) (d : Diagnostic) (out err path : Text) (report : Report) → d ≡ not_source (span_of span)
    → path ≡ file.name → out ≡ [] → err ≡ diagnostic_text formats.Full path (Some file) d → Writes out err (counted_as Faulty) report
    → Writes [] (diagnostic_text formats.Full file.name (Some file) (not_source (span_of span))) (counted_as Faulty) report
prints_unsaid file span d out err path report same name none text writes = record {
  out_is = writes.out_is ∙ none;
  err_is = writes.err_is ∙ text ∙ ap (λ (p : Text). diagnostic_text formats.Full p (Some file) d) name
      ∙ ap (λ (x : Diagnostic). diagnostic_text formats.Full file.name (Some file) x) same;
  counts_are = writes.counts_are;
}

-- the report on a module without a source is that on its first part that no source says
pub unsaid_printed : {E : Type 0} (turn : Turn) (file own : File) (source given : Result Text Span) (fault : SourceError) (span : CodeSpan)
    (result : Result Report E) → own ≡ file → given ≡ source → fault ≡ errors.NotSource span → FaultIs given fault
    → IfOk result (Writes [] (diagnostic_text formats.Full own.name (Some own) (not_source (span_of span))) (counted_as Faulty))
    → IfOk result (PrintsSaid turn file source)
unsaid_printed turn file own source given fault span result is_file is_source is_unsaid fails h =
    let unsaid : given ≡ Err (span_of span) = subst (λ (e : SourceError). FaultIs given e) is_unsaid fails in
    subst (λ (o : Result Text Span). IfOk result (PrintsSaid turn file o)) (sym unsaid ∙ is_source)
    (subst (λ (f : File). IfOk result (Writes [] (diagnostic_text formats.Full f.name (Some f) (not_source (span_of span))) (counted_as Faulty)))
    is_file h)
