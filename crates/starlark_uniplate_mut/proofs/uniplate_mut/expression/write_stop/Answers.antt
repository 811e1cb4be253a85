use Rattle.std.proofs.Common.{refl}
use Rattle.starlark_uniplate_mut.proofs.Writing.{write_on, write_stops}
use Rattle.starlark_uniplate_mut.proofs.uniplate_mut.expression.write_stop.Goals as goal

pub returns-in-Ok : goal.returns-in-Ok
returns-in-Ok g c = record {
  calls = write_on (rw c.in-Ok.is at c.write_maybe.ensures.calls) c.write_maybe-in-Ok.ensures.calls;
  stop = c.write_maybe.ensures.rest;
  step = c.write_maybe-in-Ok.ensures.rest;
}

pub returns-in-Err : goal.returns-in-Err
returns-in-Err g c = record { calls = write_stops _ (rw c.in-Err.is at c.write_maybe.ensures.calls); stop = c.write_maybe.ensures.rest; step = refl }
