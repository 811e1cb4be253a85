use Rattle.starlark_source.proofs.PageLemmas.{wrote_append}
use Rattle.starlark_source.proofs.statement.write_def.Goals as goal

pub returns : goal.returns
returns c =
    wrote_append _ _ _ _ _ c.put.ensures (wrote_append _ _ _ _ _ (rw c.as_str.ensures.value at c.write_name.ensures)
    (wrote_append _ _ _ _ _ (wrote_append _ _ _ _ _ c.put-2.ensures (wrote_append _ _ _ _ _ (rw c.deref.ensures.value at c.write_parameters.ensures)
    c.put-3.ensures)) c.write_type_if_there.ensures))
