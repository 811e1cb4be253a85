use Rattle.std.proofs.Common.{◌++◌, codes}
use Rattle.starlark_source.specs.Pages.{say}
use Rattle.starlark_source.specs.DraftedLines.{drafted_load_arg}
use Rattle.starlark_source.proofs.PageLemmas.{wrote_append, wrote_nothing}
use Rattle.starlark_source.proofs.WroteLists.{wrote_more, wrote_all}
use Rattle.starlark_source.proofs.statement.write_load_args.Goals as goal

pub loop-arg-init : goal.loop-arg-init
loop-arg-init c =
    wrote_nothing _

pub loop-arg-preserved : goal.loop-arg-preserved
loop-arg-preserved c =
    wrote_more (λ a. say (codes ", ") ++ drafted_load_arg a) _ _ _ _ _ _ c.loop-arg-test.true c.arg-item.is c.loop-arg.invariant
    (wrote_append _ _ _ _ _ c.put.ensures c.write_load_arg.ensures)

pub returns : goal.returns
returns c =
    wrote_all (λ a. say (codes ", ") ++ drafted_load_arg a) _ _ _ _ c.loop-arg-test.false c.loop-arg.invariant
