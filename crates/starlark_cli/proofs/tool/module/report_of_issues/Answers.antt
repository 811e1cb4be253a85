use Rattle.std.proofs.Common.{◌≡◌, length, rules, string_bytes}
use Rattle.starlark_cli.proofs.ToolLemmas.Modules.{prints_issues}
use Rattle.starlark_cli.proofs.tool.module.report_of_issues.Goals as goal

pub returns : goal.returns
returns c =
    let given : c.deref.result.now ≡ c.in-Ok.issues.items = search rules in
    let shown : c.deref-2.result.now ≡ c.in_ok-diagnostics.diagnostics.items = search rules in
    let counted : c.len.result ≡ length c.in_ok-diagnostics.diagnostics.items = search rules in
    prints_issues c.args.format c.args.follows c.args.ast.now.codemap c.codemap-codemap.result.now c.filename.result.now _ _ c.in-Ok.issues.items
    c.deref.result.now c.in_ok-diagnostics.diagnostics.items c.deref-2.result.now (string_bytes c.in_ok-out.out) c.len.result c.warned.result
    c.codemap-codemap.ensures c.filename.ensures given shown c.in-Ok.ensures.found c.in_ok-diagnostics.ensures c.in_ok-out.ensures counted c.warned.ensures
