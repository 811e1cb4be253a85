use Rattle.starlark_source.proofs.PageLemmas.{wrote_append}
use Rattle.starlark_source.proofs.statement.write_for.Goals as goal

pub returns : goal.returns
returns c =
    wrote_append _ _ _ _ _ c.put.ensures (wrote_append _ _ _ _ _ c.write_target_list.ensures (wrote_append _ _ _ _ _ c.put-2.ensures c.write_expr.ensures))
