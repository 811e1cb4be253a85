use Rattle.std.proofs.Common.{refl}
use Rattle.starlark_uniplate_mut.proofs.Writing.{write_on, write_stops}
use Rattle.starlark_uniplate_mut.proofs.uniplate_mut.expression.write_bounds.Goals as goal

pub returns-in-Ok : goal.returns-in-Ok
returns-in-Ok g c = record {
  calls = write_on (rw c.in-Ok.is at c.write_maybe.ensures.calls) c.write_stop.ensures.calls;
  start = c.write_maybe.ensures.rest;
  stop = c.write_stop.ensures.stop;
  step = c.write_stop.ensures.step;
}

pub returns-in-Err : goal.returns-in-Err
returns-in-Err g c = record {
  calls = write_stops _ (rw c.in-Err.is at c.write_maybe.ensures.calls);
  start = c.write_maybe.ensures.rest;
  stop = refl;
  step = refl;
}
