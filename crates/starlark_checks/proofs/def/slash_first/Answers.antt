use Rattle.std.proofs.Common.{sym}
use Rattle.starlark_checks.proofs.ParameterForms.{other_first, slash_is_first}
use Rattle.starlark_checks.proofs.def.slash_first.Goals as goal

pub returns-in-Slash : goal.returns-in-Slash
returns-in-Slash g c = sym (slash_is_first c.args.params.now c.in_ok-first.first.now c.in_ok-first.ensures.value c.in-Slash.is)

pub returns-in_default : goal.returns-in_default
returns-in_default g c = sym (other_first c.args.params.now c.in_ok-first.first.now c.in_ok-first.ensures.value c.in_default.not-Slash)
