use Rattle.starlark_source.proofs.PageLemmas.{wrote_nothing}
use Rattle.starlark_source.proofs.expression.write_type_if_there.Goals as goal

pub returns-in-Some : goal.returns-in-Some
returns-in-Some c =
    rw c.in-Some.is (rw c.deref.ensures at c.write_after.ensures)

pub returns-in-None : goal.returns-in-None
returns-in-None c =
    rw c.in-None.is (wrote_nothing _)
