use Rattle.starlark_json.proofs.TreeLemmas.AddsLemmas.{one, next}
use Rattle.starlark_json.proofs.tree.statement.write_assign_modify.Goals as goal

pub returns : goal.returns
returns c = next c.in_ok-write_head.ensures (next c.in_ok-write_target_field.ensures (next (rw c.assign_operator_name.ensures at c.in_ok-write_text.ensures)
    (next c.in_ok-write_field.ensures (one c.end_object.ensures))))
