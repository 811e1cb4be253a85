use Rattle.starlark_json.proofs.TreeLemmas.AddsLemmas.{one, next}
use Rattle.starlark_json.proofs.tree.leaf.write_word.Goals as goal

pub returns : goal.returns
returns c =
    next (one c.in_ok-key.ensures) (next (one c.in_ok-begin_object.ensures)
    (next (one c.in_ok-key-2.ensures) (next c.in_ok-write_span.ensures (next c.in_ok-write_text.ensures (one c.end_object.ensures)))))
