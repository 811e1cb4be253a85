use Rattle.starlark_cli.specs.Tool.Lists.{load_line}
use Rattle.starlark_cli.proofs.Lines.{lines_of_list}
use Rattle.starlark_passes.proofs.OutlineLemmas.Outlines.{one_more, all_parts}
use Rattle.std.proofs.Common.{[]}
use Rattle.starlark_passes.specs.Outline.Listed.{listed}
use Rattle.starlark_cli.proofs.tool.listing.loads_text.Goals as goal

pub loop-load-preserved : goal.loop-load-preserved
loop-load-preserved c =
    one_more (λ x. load_line x.span.file (listed x).1) c.deref-load-items.result.now c.loop-load.load-index c.load-item.result [] _ _ c.loop-load-test.true
    c.load-item.is c.loop-load.invariant c.in_ok-add_load.ensures

pub returns : goal.returns
returns c =
    all_parts (λ x. load_line x.span.file (listed x).1) c.deref-load-items.result.now c.in_ok-loads.loads.items c.loop-load.load-index [] _ _
    c.loop-load-test.false c.deref-load-items.ensures.value
    (lines_of_list load_line listed c.in_ok-loads.loads.items c.args.ast.now.codemap _ c.in_ok-loads.ensures.loads) c.loop-load.invariant
