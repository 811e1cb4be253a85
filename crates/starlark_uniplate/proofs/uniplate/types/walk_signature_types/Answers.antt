use Rattle.starlark_uniplate.proofs.Turns.{stops_at, then_on}
use Rattle.starlark_uniplate.proofs.uniplate.types.walk_signature_types.Goals as goal

pub returns-in-Ok : goal.returns-in-Ok
returns-in-Ok g c = then_on c.in-Ok.is c.walk_parameter_types.ensures c.walk_boxed_type.ensures

pub returns-in-Err : goal.returns-in-Err
returns-in-Err g c = stops_at _ c.in-Err.is c.walk_parameter_types.ensures
