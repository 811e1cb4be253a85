use Rattle.std.proofs.Common.{refl}
use Rattle.starlark_tree.proofs.Steps.{walk_one}
use Rattle.starlark_uniplate.proofs.uniplate.ident.walk_own_ident.Goals as goal

pub returns-in-Identifier : goal.returns-in-Identifier
returns-in-Identifier g c = rw c.in-Identifier.is (walk_one (record { shown = _; shows = refl; called = c.f.ensures }))
