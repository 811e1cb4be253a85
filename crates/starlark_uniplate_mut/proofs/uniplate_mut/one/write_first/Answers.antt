use Rattle.starlark_uniplate_mut.proofs.Writing.{may_after}
use Rattle.starlark_uniplate_mut.proofs.uniplate_mut.one.write_first.Goals as goal

pub returns-clause-others : goal.returns-clause-others
returns-clause-others g c ys may is = may_after (rw is at c.write_one.ensures) ys may
