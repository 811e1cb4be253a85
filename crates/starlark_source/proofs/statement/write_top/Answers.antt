use Rattle.starlark_source.proofs.PageLemmas.{wrote_as, wrote_nothing}
use Rattle.starlark_source.proofs.StatementLemmas.{top_none, top_some}
use Rattle.starlark_source.proofs.statement.write_top.Goals as goal

pub returns-in-empty : goal.returns-in-empty
returns-in-empty c = wrote_as _ _ _ _ (wrote_nothing _) (top_none c.args.span c.args.parts.now c.in-empty.len_below)

pub returns-in_default : goal.returns-in_default
returns-in_default c = wrote_as _ _ _ _ c.write_block.ensures (top_some c.args.span c.args.parts.now c.in_default.len_at_least)
