use Rattle.starlark_uniplate_mut.proofs.Writing.{write_on, write_stops}
use Rattle.starlark_uniplate_mut.proofs.uniplate_mut.one.write_three.Goals as goal

pub returns-in-Ok : goal.returns-in-Ok
returns-in-Ok g c = write_on (rw c.in-Ok.is at c.write_first_two.ensures.calls) c.write_one.ensures

pub returns-in-Err : goal.returns-in-Err
returns-in-Err g c = write_stops _ (rw c.in-Err.is at c.write_first_two.ensures.calls)
