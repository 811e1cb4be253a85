use Rattle.starlark_json.proofs.TreeLemmas.AddsLemmas.{next}
use Rattle.starlark_json.proofs.tree.literal.write_literal.Goals as goal

pub returns : goal.returns
returns c = next c.in_ok-write_head.ensures c.write_fields.ensures
