use Rattle.std.proofs.Common.{IfOk, codes, subst}
use Rattle.starlark_cli.specs.Tool.Writing.{PrintsFault}
use Rattle.starlark_cli.specs.declared.tool.report.Finding.TheVariants.{Failed}
use Rattle.starlark_cli.proofs.tool.error.report_of_unread.Goals as goal

pub returns : goal.returns
returns c =
    subst (λ d. IfOk c.report_of_fault.result (PrintsFault c.args.task.now c.args.turn c.args.path.now (codes "Unreadable") d Failed))
    c.in_ok-diagnostic.ensures c.report_of_fault.ensures
