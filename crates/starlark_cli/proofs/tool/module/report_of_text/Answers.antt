use Rattle.std.proofs.Common.{string_bytes}
use Rattle.std.proofs.lemmas.Result.{IfOk-weaker}
use Rattle.starlark_cli.proofs.ToolLemmas.Reporting.{both_ok, err_same, of_module, of_refusal}
use Rattle.starlark_cli.proofs.tool.module.report_of_text.Goals as goal

pub returns-in-Ok : goal.returns-in-Ok
returns-in-Ok c =
    IfOk-weaker c.report_of_module.result _ _ (λ r h. of_module c.args.task.now c.args.turn c.args.path.now (string_bytes c.args.text) _ _ _ _ r
    c.in-Ok.ensures.codemap c.in-Ok.ensures.comments c.in-Ok.ensures.suppressions c.in-Ok.ensures.within c.in-Ok.ensures.parsed h) c.report_of_module.ensures

pub returns-in-Err : goal.returns-in-Err
returns-in-Err c =
    IfOk-weaker c.report_of_refusal.result _ _ (λ r h. of_refusal c.args.task.now c.args.turn c.args.path.now (string_bytes c.args.text) _ r
    (λ long. err_same _ _ (c.in-Err.ensures.too_long long)) c.in-Err.ensures.refused h.0 h.1)
    (both_ok c.report_of_refusal.result _ _ c.report_of_refusal.ensures.has_memory c.report_of_refusal.ensures.printed)
