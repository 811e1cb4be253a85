use Rattle.starlark_compact.proofs.AddsLemmas.{next}
use Rattle.starlark_compact.proofs.AnswerLemmas.{placed}
use Rattle.starlark_compact.proofs.answer.write_place.Goals as goal

pub returns : goal.returns
returns c = next c.in_ok-write_number.ensures (next c.in_ok-write_span.ensures
    (next (placed c.resolve_span-resolved.ensures.begin c.in_ok-write_position.ensures)
    (placed c.resolve_span-resolved.ensures.end c.write_position-2.ensures)))
