use Rattle.std.proofs.Common.{refl}
use Rattle.starlark_uniplate.specs.Held.{statement_at}
use Rattle.starlark_uniplate.proofs.uniplate.enter.EnterAtStmt.call.Goals as goal

pub returns : goal.returns
unfolding statement_at
returns g c =
    record { function = _; shown = _; shows = refl; old = _; begins = refl; mark = _; new = _; returned = c.function.ensures; ends = refl }
