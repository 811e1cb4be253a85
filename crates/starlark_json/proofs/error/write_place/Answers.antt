use Rattle.starlark_json.proofs.TreeLemmas.AddsLemmas.{one, next}
use Rattle.starlark_json.proofs.Errors.{placed}
use Rattle.starlark_json.proofs.error.write_place.Goals as goal

pub returns : goal.returns
returns c =
    next (rw c.filename.ensures at c.in_ok-write_text.ensures)
    (next (one c.in_ok-key.ensures)
    (next c.in_ok-write_span.ensures
    (next (placed c.resolve_span-resolved.ensures.begin c.in_ok-write_position.ensures)
    (next (placed c.resolve_span-resolved.ensures.end c.in_ok-write_position-2.ensures) (one c.end_object.ensures)))))
