use Rattle.std.proofs.Common.{◌≡◌, map, take}
use Rattle.std.specs.List.{flat_map}
use Rattle.starlark_syntax.specs.tree.Views.{statement_of}
use Rattle.starlark_examples.specs.Documentation.{documented, function_of}
use Rattle.starlark_examples.proofs.documentation.functions.Given as goal

abbrev pub invariant-loop-statement : goal.invariant-loop-statement
invariant-loop-statement l = map function_of l.found.items ≡ flat_map (λ s. documented (statement_of s.now)) (take l.statement-index l.statement-items)
