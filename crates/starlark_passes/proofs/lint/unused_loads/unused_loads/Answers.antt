use Rattle.std.proofs.Common.{◌++◌, map, string_bytes, ap, ◌∙◌}
use Rattle.std.specs.List.{flat_map}
use Rattle.starlark_lexer.specs.Tokens.{span_of}
use Rattle.starlark_tree.specs.Places.{behind}
use Rattle.starlark_tree.specs.Views.{load_arg_of}
use Rattle.starlark_passes.specs.Lint.LintIssues.{unused_symbol}
use Rattle.starlark_passes.proofs.LintLemmas.Texts.{unused_found}
use Rattle.starlark_passes.proofs.lint.unused_loads.unused_loads.Goals as goal

pub returns : goal.returns
returns c =
    c.in_ok-add_unread.ensures
    ∙ ap (λ l. map span_of l ++ flat_map (λ s. unused_symbol (map string_bytes c.in_ok-names.names.keys) (load_arg_of s.now)) c.as_slice.result.now)
    c.new-found.ensures.items
    ∙ unused_found (behind load_arg_of) c.as_slice.result.now _ _ _ c.in_ok-names.ensures (ap (map (behind load_arg_of)) c.as_slice.ensures.value
    ∙ c.in_ok-symbols.ensures)
