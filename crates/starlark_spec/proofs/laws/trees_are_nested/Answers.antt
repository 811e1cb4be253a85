use Rattle.starlark_spec.proofs.Nesting.{trees_are_nested}
use Rattle.starlark_spec.proofs.laws.trees_are_nested.Goals as goal

pub returns : goal.returns
returns c = trees_are_nested
