use Rattle.std.proofs.Common.{ap, sym}
use Rattle.starlark_cli.specs.Tool.Modules.{finding_of}
use Rattle.starlark_cli.proofs.ToolLemmas.Reporting.{finding_some}
use Rattle.starlark_cli.proofs.tool.module.finding_of.Goals as goal

pub returns-then-issues-eq0 : goal.returns-then-issues-eq0
returns-then-issues-eq0 c = sym (ap finding_of c.if-issues-eq0.true)

pub returns-else-issues-eq0 : goal.returns-else-issues-eq0
returns-else-issues-eq0 c = sym (finding_some c.args.issues c.if-issues-eq0.false)
