use Rattle.std.proofs.Common.{ap, option_map, sym, ◌∙◌}
use Rattle.std.proofs.lemmas.Result.{IfOk-weaker}
use Rattle.starlark_checks.specs.Refusals.{Place, place}
use Rattle.starlark_diagnostics.specs.Ends.{file_of}
use Rattle.starlark_diagnostics.specs.DiagnosticViews.{seen}
use Rattle.starlark_cli.proofs.ToolLemmas.Reporting.{not_memory, ok_always, refusal_printed}
use Rattle.starlark_cli.proofs.tool.module.report_of_refusal.Goals.{in-Some, in-None}
use Rattle.starlark_cli.proofs.tool.module.report_of_refusal.Goals as goal

pub returns : goal.returns
returns c = record {
  has_memory = ok_always c.report_of_error.result _ (not_memory c.is_out_of_memory.result c.args.error.now c.is_out_of_memory.ensures
      c.if-is_out_of_memory.false);
  printed = IfOk-weaker c.report_of_error.result _ _ (λ r h. refusal_printed c.args.task.now c.args.turn c.args.path.now c.args.error.now
      (seen c.in_ok-diagnostic.diagnostic) _ r c.in_default.not-Json (record {
        code_is = c.in_ok-diagnostic.ensures.code;
        severity_is = c.in_ok-diagnostic.ensures.severity;
        span_is = c.in_ok-diagnostic.ensures.span;
        message_is = c.in_ok-diagnostic.ensures.message;
      }) (elim c.match-span.branch [
        | in-Some w ↦ ap file_of w.codemap-is ∙ ap (option_map (λ (p : Place). p.file)) (sym (ap place w.in-Some.is) ∙ c.span.ensures)
        | in-None w ↦ ap file_of w.codemap-is ∙ ap (option_map (λ (p : Place). p.file)) (sym (ap place w.in-None.is) ∙ c.span.ensures)
      ]) h) c.report_of_error.ensures;
}
