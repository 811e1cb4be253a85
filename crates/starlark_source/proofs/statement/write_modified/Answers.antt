use Rattle.starlark_source.proofs.PageLemmas.{wrote_as}
use Rattle.starlark_source.proofs.StatementLemmas.{other_modified, tuple_modified}
use Rattle.starlark_source.proofs.statement.write_modified.Goals as goal

pub returns-in-Tuple : goal.returns-in-Tuple
returns-in-Tuple c =
    wrote_as _ _ _ _ c.refuse.ensures (tuple_modified c.args.target.now c.in-Tuple.field-0 c.in-Tuple.is)

pub returns-in_default : goal.returns-in_default
returns-in_default c =
    wrote_as _ _ _ _ c.write_target_list.ensures (other_modified c.args.target.now c.in_default.not-Tuple)
