use Rattle.starlark_source.proofs.PageLemmas.{wrote_as, wrote_append, wrote_nothing}
use Rattle.starlark_source.proofs.StatementLemmas.{no_type_of, other_type_of, tuple_type_of}
use Rattle.starlark_source.proofs.statement.write_target_type.Goals as goal

pub returns-in-Tuple : goal.returns-in-Tuple
returns-in-Tuple c =
    wrote_as _ _ _ _ c.refuse.ensures (rw c.in-Some.is (tuple_type_of c.args.target.now c.in-Tuple.field-0 c.in-Some.ty c.in-Tuple.is))

pub returns-in_default : goal.returns-in_default
returns-in_default c =
    wrote_as _ _ _ _ (wrote_append _ _ _ _ _ c.put.ensures c.write_expr.ensures)
    (rw c.in-Some.is (other_type_of c.args.target.now c.in-Some.ty c.in_default.not-Tuple))

pub returns-in-None : goal.returns-in-None
returns-in-None c =
    wrote_as _ _ _ _ (wrote_nothing _) (no_type_of c.args.target.now c.args.ty.now c.in-None.is)
