use Rattle.std.proofs.Common.{refl}
use Rattle.starlark_uniplate_mut.proofs.Writing.{write_on, write_stops}
use Rattle.starlark_uniplate_mut.proofs.uniplate_mut.statement.write_assigned.Goals as goal

pub returns-in-Ok : goal.returns-in-Ok
returns-in-Ok g c = record {
  calls = write_on (rw c.in-Ok.is at c.write_target.ensures.calls) c.write_typed.ensures.calls;
  target = c.write_target.ensures.rest;
  ty = c.write_typed.ensures.rest;
}

pub returns-in-Err : goal.returns-in-Err
returns-in-Err g c = record { calls = write_stops _ (rw c.in-Err.is at c.write_target.ensures.calls); target = c.write_target.ensures.rest; ty = refl }
