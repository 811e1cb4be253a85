use Rattle.starlark_uniplate_mut.proofs.Writing.{write_on, write_stops}
use Rattle.starlark_uniplate_mut.proofs.uniplate_mut.target.write_binding.Goals as goal

pub returns-in-Ok : goal.returns-in-Ok
returns-in-Ok g c = record { calls = write_on (rw c.in-Ok.is at c.write_target.ensures.calls) c.write_one.ensures; rest = c.write_target.ensures.rest }

pub returns-in-Err : goal.returns-in-Err
returns-in-Err g c = record { calls = write_stops _ (rw c.in-Err.is at c.write_target.ensures.calls); rest = c.write_target.ensures.rest }
