use Rattle.std.proofs.Common.{refl}
use Rattle.starlark_uniplate_mut.proofs.Writing.{write_on, write_stops}
use Rattle.starlark_uniplate_mut.proofs.uniplate_mut.statement.write_signature.Goals as goal

pub returns-in-Ok : goal.returns-in-Ok
returns-in-Ok g c = record {
  calls = write_on (rw c.in-Ok.is at c.write_parameters.ensures.calls) c.write_type.ensures.calls;
  parameters = c.write_parameters.ensures.rest;
  return_type = c.write_type.ensures.rest;
}

pub returns-in-Err : goal.returns-in-Err
returns-in-Err g c = record {
  calls = write_stops _ (rw c.in-Err.is at c.write_parameters.ensures.calls);
  parameters = c.write_parameters.ensures.rest;
  return_type = refl;
}
