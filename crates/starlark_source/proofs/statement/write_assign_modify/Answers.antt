use Rattle.starlark_source.proofs.PageLemmas.{wrote_append}
use Rattle.starlark_source.proofs.statement.write_assign_modify.Goals as goal

pub returns : goal.returns
returns c =
    wrote_append _ _ _ _ _ c.write_modified.ensures (wrote_append _ _ _ _ _ c.write_assign_operator.ensures (rw c.deref.ensures at c.write_list.ensures))
