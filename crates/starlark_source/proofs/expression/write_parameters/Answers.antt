use Rattle.std.proofs.Common.{◌++◌, codes}
use Rattle.starlark_source.specs.Pages.{say}
use Rattle.starlark_source.specs.Drafted.{drafted_parameter}
use Rattle.starlark_source.proofs.PageLemmas.{wrote_append, wrote_nothing}
use Rattle.starlark_source.proofs.WroteLists.{wrote_more, wrote_list, wrote_none}
use Rattle.starlark_source.proofs.expression.write_parameters.Goals as goal

pub returns-in-empty : goal.returns-in-empty
returns-in-empty c =
    wrote_none (λ p. drafted_parameter p.node) (codes ", ") _ _ c.in-empty.len_below

pub loop-item-init : goal.loop-item-init
loop-item-init c =
    wrote_nothing _

pub loop-item-preserved : goal.loop-item-preserved
loop-item-preserved c =
    wrote_more (λ p. say (codes ", ") ++ drafted_parameter p.node) _ _ _ _ _ _ c.loop-item-test.true c.item-item.is c.loop-item.invariant
    (wrote_append _ _ _ _ _ c.put.ensures c.write_parameter-in-loop-item.ensures)

pub returns-after-loop-item : goal.returns-after-loop-item
returns-after-loop-item c =
    wrote_list (λ p. drafted_parameter p.node) (codes ", ") _ _ _ _ _ _ c.in-len1-up.len_at_least c.first-item.is c.loop-item-test.false
    c.write_parameter.ensures c.loop-item.invariant
