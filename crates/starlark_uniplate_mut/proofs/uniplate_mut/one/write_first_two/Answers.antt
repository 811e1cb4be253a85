use Rattle.std.proofs.Common.{[], ◌∷◌}
use Rattle.starlark_uniplate_mut.proofs.Writing.{may_after}
use Rattle.starlark_uniplate_mut.proofs.uniplate_mut.one.write_first_two.Goals as goal

pub returns-clause-third : goal.returns-clause-third
returns-clause-third g c y may is = (may_after (rw is at c.write_two.ensures) (y ∷ []) may).each.0
