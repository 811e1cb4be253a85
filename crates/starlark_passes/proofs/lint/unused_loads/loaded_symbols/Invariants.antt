use Rattle.std.proofs.Common.{◌≡◌, map, take}
use Rattle.std.specs.List.{flat_map}
use Rattle.starlark_tree.specs.Places.{behind}
use Rattle.starlark_tree.specs.Views.{load_arg_of, statement_of}
use Rattle.starlark_passes.specs.Lint.LintIssues.{loaded}
use Rattle.starlark_passes.proofs.lint.unused_loads.loaded_symbols.Given as goal

abbrev pub invariant-loop-statement : goal.invariant-loop-statement
invariant-loop-statement l =
    map (behind load_arg_of) l.symbols.items ≡ flat_map (λ s. loaded (statement_of s.now)) (take l.statement-index l.statement-items)
