use Rattle.std.proofs.Common.{sym, ◌∙◌, arith}
use Rattle.starlark_source.proofs.PageLemmas.{wrote_as, wrote_append}
use Rattle.starlark_source.proofs.StatementLemmas.{is_none, is_some_number, load_of_none, load_of_some}
use Rattle.starlark_source.proofs.statement.write_load.Goals as goal

pub returns-then-is_empty : goal.returns-then-is_empty
returns-then-is_empty c =
    wrote_as _ _ _ _ c.refuse.ensures (load_of_none c.args.span c.args.load.now (omega (arith, is_none _ (sym c.is_empty.ensures ∙ c.if-is_empty.true))))

pub returns-else-is_empty : goal.returns-else-is_empty
returns-else-is_empty c =
    wrote_as _ _ _ _ (wrote_append _ _ _ _ _ c.put.ensures (wrote_append _ _ _ _ _ (rw c.as_str.ensures.value at c.write_quoted.ensures)
    (wrote_append _ _ _ _ _ (rw c.deref.ensures.value at c.write_load_args.ensures) c.put-else-is_empty.ensures)))
    (load_of_some c.args.span c.args.load.now (omega (arith, is_some_number _ (sym c.is_empty.ensures ∙ c.if-is_empty.false))))
