use Rattle.std.proofs.Common.{◌++◌, codes}
use Rattle.starlark_source.specs.Pages.{say}
use Rattle.starlark_source.specs.DraftedLines.{drafted_small}
use Rattle.starlark_source.proofs.PageLemmas.{wrote_append, wrote_nothing}
use Rattle.starlark_source.proofs.WroteLists.{wrote_more, wrote_list, wrote_none}
use Rattle.starlark_source.proofs.statement.write_smalls.Goals as goal

pub returns-in-empty : goal.returns-in-empty
returns-in-empty c =
    wrote_none (λ s. drafted_small s.span s.node) (codes "; ") _ _ c.in-empty.len_below

pub loop-part-init : goal.loop-part-init
loop-part-init c =
    wrote_nothing _

pub loop-part-preserved : goal.loop-part-preserved
loop-part-preserved c =
    wrote_more (λ s. say (codes "; ") ++ drafted_small s.span s.node) _ _ _ _ _ _ c.loop-part-test.true c.part-item.is c.loop-part.invariant
    (wrote_append _ _ _ _ _ c.put.ensures c.write_small-in-loop-part.ensures)

pub returns-after-loop-part : goal.returns-after-loop-part
returns-after-loop-part c =
    wrote_list (λ s. drafted_small s.span s.node) (codes "; ") _ _ _ _ _ _ c.in-len1-up.len_at_least c.first-item.is c.loop-part-test.false
    c.write_small.ensures c.loop-part.invariant
