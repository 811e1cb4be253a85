use Rattle.starlark_tree.proofs.Steps.{same_err}
use Rattle.starlark_uniplate_mut.proofs.Writing.{write_on, write_stops}
use Rattle.starlark_uniplate_mut.proofs.uniplate_mut.one.write_two.Goals as goal

pub returns-in_err-write_one : goal.returns-in_err-write_one
returns-in_err-write_one g c =
    rw (same_err c.from_residual.result c.in_err-write_one.field-0.0 c.from_residual.ensures.1)
    (write_stops _ (rw c.in_err-write_one.was at c.write_one.ensures))

pub returns : goal.returns
returns g c = write_on (rw c.in_ok-write_one.was at c.write_one.ensures) c.write_one-2.ensures
