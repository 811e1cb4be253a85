use Rattle.std.proofs.Common.{rules, ◌≡◌, IfOk, string_bytes, subst, sym}
use Rattle.starlark_lexer.specs.Tokens.{Text}
use Rattle.starlark_cli.proofs.ToolLemmas.WholeRuns.{found_unread}
use Rattle.starlark_cli.specs.Tool.PrintedFiles.{PrintsFound}
use Rattle.starlark_cli.specs.Tool.Writing.{PrintsUnread}
use Rattle.starlark_cli.specs.declared.tool.folder.Found.{Found}
use Rattle.starlark_cli.proofs.tool.run.report_of_file.Goals as goal

pub returns-in-Unread : goal.returns-in-Unread
returns-in-Unread g c =
    let request = c.args.request.now in
    let path : c.deref-in-Unread.result.now ≡ string_bytes c.in-Unread.path = search rules in
    let reason : c.deref-in-Unread-2.result.now ≡ string_bytes c.in-Unread.reason = search rules in
    let known = g.I.Read.remaining c.args.input.now in
    subst (λ (f : Found). IfOk c.report_of_unread.result (PrintsFound request c.args.turn known known f)) (sym c.in-Unread.is)
    (found_unread request c.args.turn known c.in-Unread.path c.in-Unread.reason c.report_of_unread.result
    (subst (λ (why : Text). IfOk c.report_of_unread.result (PrintsUnread request.task c.args.turn (string_bytes c.in-Unread.path) why)) reason
    (subst (λ (name : Text). IfOk c.report_of_unread.result (PrintsUnread request.task c.args.turn name c.deref-in-Unread-2.result.now)) path
    c.report_of_unread.ensures)))
