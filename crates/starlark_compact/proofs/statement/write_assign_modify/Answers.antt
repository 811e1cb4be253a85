use Rattle.starlark_compact.proofs.AddsLemmas.{next}
use Rattle.starlark_compact.proofs.statement.write_assign_modify.Goals as goal

pub returns : goal.returns
returns c = next c.in_ok-write_target.ensures (next c.in_ok-write_expression.ensures
    (rw c.assign_operator_number.ensures at c.write_numbered.ensures))
