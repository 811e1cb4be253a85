use Rattle.std.proofs.Common.{◌≡◌, ◌++◌, [], map, drop}
use Rattle.std.specs.List.{flat_map}
use Rattle.starlark_tree.specs.Views.{expression_of}
use Rattle.starlark_lexer.specs.Tokens.{span_of}
use Rattle.starlark_passes.specs.Lint.Found.{text_of}
use Rattle.starlark_passes.specs.Lint.LintIssues.{repeats, string_key}
use Rattle.starlark_passes.proofs.lint.duplicate_keys.add_repeated.Given as goal

abbrev pub invariant-loop-pair : goal.invariant-loop-pair
invariant-loop-pair l =
    map span_of l.found.items ++ repeats (map text_of l.seen.keys) (flat_map (λ p. string_key (expression_of p.0)) (drop l.pair-index l.pairs))
    ≡ map span_of l.fn.found.items ++ repeats [] (flat_map (λ p. string_key (expression_of p.0)) l.pairs)
