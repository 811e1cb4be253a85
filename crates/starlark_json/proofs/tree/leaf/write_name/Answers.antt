use Rattle.starlark_json.proofs.TreeLemmas.AddsLemmas.{one, next}
use Rattle.starlark_json.proofs.tree.leaf.write_name.Goals as goal

pub returns : goal.returns
returns c = next c.in_ok-write_head.ensures (next c.in_ok-write_text.ensures (one c.end_object.ensures))
