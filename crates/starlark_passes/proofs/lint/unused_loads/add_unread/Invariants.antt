use Rattle.std.proofs.Common.{◌≡◌, ◌++◌, map, string_bytes, take}
use Rattle.std.specs.List.{flat_map}
use Rattle.starlark_tree.specs.Views.{load_arg_of}
use Rattle.starlark_lexer.specs.Tokens.{span_of}
use Rattle.starlark_passes.specs.Lint.LintIssues.{unused_symbol}
use Rattle.starlark_passes.proofs.lint.unused_loads.add_unread.Given as goal

abbrev pub invariant-loop-symbol : goal.invariant-loop-symbol
invariant-loop-symbol l =
    map span_of l.found.items ≡ map span_of l.fn.found.items ++ flat_map (λ s. unused_symbol (map string_bytes l.names.keys) (load_arg_of s.now))
    (take l.symbol-index l.symbols)
