use Rattle.starlark_spec.proofs.Theorems.{each_is_read}
use Rattle.starlark_spec.proofs.machine_laws.each_derivation_is_read.Goals as goal

pub returns : goal.returns
returns c = each_is_read
