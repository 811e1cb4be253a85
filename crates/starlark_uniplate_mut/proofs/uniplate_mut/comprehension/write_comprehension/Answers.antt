use Rattle.std.proofs.Common.{refl}
use Rattle.starlark_uniplate_mut.proofs.Writing.{write_on, write_stops}
use Rattle.starlark_uniplate_mut.proofs.uniplate_mut.comprehension.write_comprehension.Goals as goal

pub returns-in-Ok : goal.returns-in-Ok
returns-in-Ok g c = record {
  calls = write_on (rw c.in-Ok.is at c.write_for.ensures.calls) c.write_clauses.ensures.calls;
  first = c.write_for.ensures.rest;
  others = c.write_clauses.ensures.rest;
}

pub returns-in-Err : goal.returns-in-Err
returns-in-Err g c = record { calls = write_stops _ (rw c.in-Err.is at c.write_for.ensures.calls); first = c.write_for.ensures.rest; others = refl }
