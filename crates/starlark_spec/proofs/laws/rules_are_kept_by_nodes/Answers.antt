use Rattle.starlark_spec.proofs.KeptByNodes.{rules_are_kept_by_nodes}
use Rattle.starlark_spec.proofs.laws.rules_are_kept_by_nodes.Goals as goal

pub returns : goal.returns
returns c = rules_are_kept_by_nodes
