use Rattle.starlark_syntax.specs.outline.Listed.{listed}
use Rattle.starlark_syntax.proofs.outline.Outlines.{all_parts, one_more}
use Rattle.starlark_examples.specs.LoadGraph.{edge_line}
use Rattle.starlark_examples.proofs.Lines.{lines_of_list}
use Rattle.starlark_examples.proofs.load_graph.add_edges.Goals as goal

pub loop-load-preserved : goal.loop-load-preserved
loop-load-preserved c =
    one_more (λ x. edge_line x.span.file (listed x).1) c.deref-load-items.result.now c.loop-load.load-index c.load-item.result _ _ _ c.loop-load-test.true
    c.load-item.is c.loop-load.invariant c.in_ok-add_edge.ensures

pub returns : goal.returns
returns c =
    all_parts (λ x. edge_line x.span.file (listed x).1) c.deref-load-items.result.now c.in_ok-loads.field-0.items c.loop-load.load-index _ _ _
    c.loop-load-test.false c.deref-load-items.ensures.value
    (lines_of_list edge_line listed c.in_ok-loads.field-0.items c.args.ast.now.codemap _ c.in_ok-loads.ensures.loads) c.loop-load.invariant
