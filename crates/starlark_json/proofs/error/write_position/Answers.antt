use Rattle.starlark_json.proofs.TreeLemmas.AddsLemmas.{one, next}
use Rattle.starlark_json.proofs.error.write_position.Goals as goal

pub returns : goal.returns
returns c =
    next (one c.in_ok-key.ensures)
    (next (one c.in_ok-begin_object.ensures) (next c.in_ok-write_count.ensures (next c.in_ok-write_count-2.ensures (one c.end_object.ensures))))
