use Rattle.std.proofs.Common.{map}
use Rattle.starlark_passes.specs.Outline.Listed.{in_file}
use Rattle.starlark_passes.specs.Outline.Outline.{locations}
use Rattle.starlark_tree.specs.Views.{statement_of}
use Rattle.starlark_passes.proofs.OutlineLemmas.Outlines.{one_more, all_parts, block_locations}
use Rattle.starlark_passes.proofs.outline.locations.+add_locations.Goals as goal

pub loop-part-preserved : goal.loop-part-preserved
loop-part-preserved t c =
    one_more (λ s. map (in_file c.args.codemap.now) (locations (statement_of s))) c.deref-part-items.result.now c.loop-part.part-index c.part-item.result _ _
    _ c.loop-part-test.true c.part-item.is c.loop-part.invariant c.in_ok-add_locations-in-Statements.ensures

pub returns-after-loop-part : goal.returns-after-loop-part
returns-after-loop-part t c =
    all_parts (λ s. map (in_file c.args.codemap.now) (locations (statement_of s))) c.deref-part-items.result.now c.in-Statements.parts.items
    c.loop-part.part-index _ _ _ c.loop-part-test.false c.deref-part-items.ensures.value
    (block_locations c.args.codemap.now c.args.statement.now c.in-Statements.parts c.in-Statements.is) c.loop-part.invariant
