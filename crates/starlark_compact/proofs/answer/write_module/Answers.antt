use Rattle.starlark_compact.proofs.AddsLemmas.{next}
use Rattle.starlark_compact.proofs.answer.write_module.Goals as goal

pub returns : goal.returns
returns c = next c.in_ok-write_number.ensures (next c.in_ok-write_number-2.ensures
    (next (rw c.comments.ensures at c.in_ok-write_comments.ensures) (rw c.statement.ensures at c.write_statement.ensures)))
