use Rattle.std.proofs.Common.{◌≡◌, string_bytes, take}
use Rattle.std.specs.List.{flat_map}
use Rattle.starlark_examples.specs.LoadGraph.{edge_lines}
use Rattle.starlark_examples.proofs.load_graph.load_graph.Given as goal

abbrev pub invariant-loop-ast : goal.invariant-loop-ast
invariant-loop-ast l = string_bytes l.graph ≡ flat_map edge_lines (take l.ast-index l.modules)
