use Rattle.std.proofs.Common.{arith}
use Rattle.starlark_checks.proofs.ParameterForms.{fewer}
use Rattle.starlark_checks.proofs.def.fit.Goals as goal

pub returns : goal.returns
returns g c = let most = fewer c.args.named.now c.args.params.now c.requires.named in let few = c.requires.fits in omega (arith, most, few)
