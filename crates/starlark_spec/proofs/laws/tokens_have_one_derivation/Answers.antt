use Rattle.starlark_spec.proofs.Theorems.{unique}
use Rattle.starlark_spec.proofs.laws.tokens_have_one_derivation.Goals as goal

pub returns : goal.returns
returns c = unique
