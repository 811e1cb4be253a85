use Rattle.starlark_source.proofs.PageLemmas.{wrote_append}
use Rattle.starlark_source.proofs.statement.write_return.Goals as goal

pub returns-in-Some : goal.returns-in-Some
returns-in-Some c =
    rw c.in-Some.is (wrote_append _ _ _ _ _ c.put.ensures c.write_list.ensures)

pub returns-in-None : goal.returns-in-None
returns-in-None c =
    rw c.in-None.is c.put-in-None.ensures
