use Rattle.starlark_source.proofs.PageLemmas.{wrote_append}
use Rattle.starlark_source.proofs.statement.write_assign.Goals as goal

pub returns : goal.returns
returns c =
    wrote_append _ _ _ _ _ c.write_target_list.ensures
    (wrote_append _ _ _ _ _ c.write_target_type.ensures (wrote_append _ _ _ _ _ c.put.ensures c.write_list.ensures))
