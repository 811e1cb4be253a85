use Rattle.std.proofs.Common.{◌≡◌, ◌++◌, string_bytes, map}
use Rattle.std.specs.List.{flat_map}
use Rattle.starlark_cli.specs.Symbols.{symbol_text}
use Rattle.starlark_passes.specs.Outline.Listed.{symbol}
use Rattle.starlark_cli.proofs.symbols.add_symbols.Given as goal

abbrev pub invariant-loop-local : goal.invariant-loop-local
invariant-loop-local l =
    string_bytes l.text ++ flat_map (λ p. symbol_text (symbol p)) l.local-iterator ≡ string_bytes l.fn.text ++ flat_map symbol_text
    (map symbol l.fn.load.symbols.entries)
