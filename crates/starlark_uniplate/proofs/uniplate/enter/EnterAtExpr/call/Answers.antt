use Rattle.std.proofs.Common.{refl}
use Rattle.starlark_uniplate.proofs.uniplate.enter.EnterAtExpr.call.Goals as goal

pub returns : goal.returns
returns g c =
    record { function = _; shown = _; shows = refl; old = _; begins = refl; mark = _; new = _; returned = c.function.ensures; ends = refl }
