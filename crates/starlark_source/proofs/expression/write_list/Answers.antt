use Rattle.std.proofs.Common.{arith}
use Rattle.starlark_source.specs.Drafted.{drafted_expr}
use Rattle.starlark_source.proofs.PageLemmas.{wrote_as}
use Rattle.starlark_source.proofs.WroteLists.{bare_few, bare_many}
use Rattle.starlark_source.proofs.ExpressionLemmas.{list_alone, tuple_list_drafted}
use Rattle.starlark_source.proofs.expression.write_list.Goals as goal

pub returns-then-len-ge2 : goal.returns-then-len-ge2
returns-then-len-ge2 c =
    rw (c.in-Tuple.is, tuple_list_drafted c.in-Tuple.items) (wrote_as _ _ _ _ (rw c.deref.ensures.value at c.write_exprs.ensures)
    (bare_many (λ e. drafted_expr e.node) c.in-Tuple.items.items (omega arith)))

pub returns-else-len-ge2 : goal.returns-else-len-ge2
returns-else-len-ge2 c =
    rw (c.in-Tuple.is, tuple_list_drafted c.in-Tuple.items) (wrote_as _ _ _ _ (rw c.deref-else-len-ge2.ensures.value at c.write_tuple.ensures)
    (bare_few (λ e. drafted_expr e.node) c.in-Tuple.items.items (omega arith)))

pub returns-in_default : goal.returns-in_default
returns-in_default c =
    wrote_as _ _ _ _ c.write_expr.ensures (list_alone c.args.e.now c.in_default.not-Tuple)
