use Rattle.std.proofs.Common.{◌*◌, replicate}
use Rattle.starlark_source.specs.Pages.{Wrote, say}
use Rattle.starlark_source.proofs.statement.write_margin.Given as goal

abbrev pub invariant-loop : goal.invariant-loop
invariant-loop l = Wrote l.initial.page (say (replicate (4 * l.counter) 32)) l.page
