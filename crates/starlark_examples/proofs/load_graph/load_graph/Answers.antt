use Rattle.std.proofs.Common.{[], refl}
use Rattle.starlark_syntax.proofs.outline.Outlines.{all_parts, one_more}
use Rattle.starlark_examples.specs.LoadGraph.{edge_lines}
use Rattle.starlark_examples.proofs.load_graph.load_graph.Goals as goal

pub loop-ast-preserved : goal.loop-ast-preserved
loop-ast-preserved c =
    one_more edge_lines c.args.modules.now c.loop-ast.ast-index c.ast-item.result [] _ _ c.loop-ast-test.true c.ast-item.is c.loop-ast.invariant
    c.in_ok-add_edges.ensures

pub returns : goal.returns
returns c = all_parts edge_lines c.args.modules.now c.args.modules.now c.loop-ast.ast-index [] _ _ c.loop-ast-test.false refl refl c.loop-ast.invariant
