use Rattle.std.proofs.Common.{◌≡◌, ◌++◌, string_bytes, take}
use Rattle.std.specs.List.{flat_map}
use Rattle.starlark_syntax.specs.outline.Listed.{listed}
use Rattle.starlark_examples.specs.LoadGraph.{edge_line}
use Rattle.starlark_examples.proofs.load_graph.add_edges.Given as goal

abbrev pub invariant-loop-load : goal.invariant-loop-load
invariant-loop-load l = string_bytes l.graph ≡ string_bytes l.fn.graph ++ flat_map (λ x. edge_line x.span.file (listed x).1) (take l.load-index l.load-items)
