use Rattle.std.proofs.Common.{IfOk, subst, sym}
use Rattle.starlark_cli.specs.Tool.Reports.{PrintsSource}
use Rattle.starlark_cli.specs.Tool.Writing.{PrintsUnread}
use Rattle.starlark_cli.proofs.tool.report.report_of.Goals as goal

pub returns-in-Unread : goal.returns-in-Unread
returns-in-Unread c =
    subst (λ s. IfOk c.report_of_unread.result (PrintsSource c.args.task.now c.args.turn c.args.path.now s)) (sym c.in-Unread.is)
    (subst (λ r. IfOk c.report_of_unread.result (PrintsUnread c.args.task.now c.args.turn c.args.path.now r)) c.as_str.ensures.value c.report_of_unread.ensures)
