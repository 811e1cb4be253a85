use Rattle.std.proofs.Common.{rules, string_bytes}
use Rattle.std.specs.Io.KnownBytes.{Appends}
use Rattle.starlark_cli.proofs.AstLemmas.Writing.{answers}
use Rattle.starlark_module.specs.Comments.Building.{suppressions_in}
use Rattle.starlark_tree.specs.Views.{statement_of}
use Rattle.starlark_cli.proofs.ast.run.answer.Goals as goal

pub returns : goal.returns
returns g c =
    let sent : Appends (g.W.Write.contents c.args.out.now) (g.W.Write.contents c.flush.new.self) (string_bytes c.in_ok-output.output) = search rules in
    answers _ c.in_ok-request.request.dialect c.in_ok-request.request.mode c.in_ok-request.ensures _ _ _ c.in_ok-module.module.codemap _
    (suppressions_in c.in_ok-module.module.suppressions) (statement_of c.in_ok-module.module.statement) _ _ _
    c.in_ok-text.ensures c.in_ok-module.ensures.parsed c.in_ok-module.ensures.codemap c.in_ok-module.ensures.comments c.in_ok-module.ensures.suppressions
    c.in_ok-output.ensures sent
