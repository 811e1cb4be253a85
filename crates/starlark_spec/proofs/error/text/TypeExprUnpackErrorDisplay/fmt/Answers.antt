use Rattle.starlark_spec.proofs.error.text.TypeExprUnpackErrorDisplay.fmt.Goals as goal

pub returns-in-DotTypeBan-clause-writes : goal.returns-in-DotTypeBan-clause-writes
returns-in-DotTypeBan-clause-writes g c plain ok = rw (c.in-DotTypeBan.is) (c.write-in-DotTypeBan.ensures.writes plain ok)
