use Rattle.starlark_uniplate.proofs.Turns.{stops_at}
use Rattle.starlark_uniplate.proofs.uniplate.expression.walk_stop.Goals as goal

pub returns-in-Err : goal.returns-in-Err
returns-in-Err g c = stops_at _ c.in-Err.is c.walk_maybe.ensures
