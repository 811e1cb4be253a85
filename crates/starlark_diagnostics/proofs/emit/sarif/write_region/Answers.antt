use Rattle.starlark_diagnostics.proofs.emit.sarif.write_region.Goals as goal

pub returns-in-Some : goal.returns-in-Some
returns-in-Some c = rw c.in-Some.is c.write_region_of.ensures
