use Rattle.std.proofs.Common.{refl}
use Rattle.starlark_uniplate_mut.proofs.Writing.{write_on, write_stops}
use Rattle.starlark_uniplate_mut.proofs.uniplate_mut.expression.write_call.Goals as goal

pub returns-in-Ok : goal.returns-in-Ok
returns-in-Ok g c = record {
  calls = write_on (rw c.in-Ok.is at c.write_first.ensures.calls) c.write_arguments.ensures.calls;
  rest = c.write_arguments.ensures.rest;
}

pub returns-in-Err : goal.returns-in-Err
returns-in-Err g c = record { calls = write_stops _ (rw c.in-Err.is at c.write_first.ensures.calls); rest = refl }
