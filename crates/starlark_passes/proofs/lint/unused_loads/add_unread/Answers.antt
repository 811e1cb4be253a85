use Rattle.std.proofs.Common.{map, string_bytes, refl}
use Rattle.starlark_tree.specs.Views.{load_arg_of}
use Rattle.starlark_passes.specs.Lint.LintIssues.{unused_symbol}
use Rattle.starlark_passes.proofs.OutlineLemmas.Outlines.{one_more, all_parts}
use Rattle.starlark_passes.proofs.lint.unused_loads.add_unread.Goals as goal

pub loop-symbol-preserved : goal.loop-symbol-preserved
loop-symbol-preserved c =
    one_more (λ s. unused_symbol (map string_bytes c.args.names.now.keys) (load_arg_of s.now)) c.args.symbols.now c.loop-symbol.symbol-index
    c.symbol-item.result _ _ _ c.loop-symbol-test.true c.symbol-item.is c.loop-symbol.invariant c.in_ok-add_if_unread.ensures

pub returns : goal.returns
returns c =
    all_parts (λ s. unused_symbol (map string_bytes c.args.names.now.keys) (load_arg_of s.now)) c.args.symbols.now c.args.symbols.now
    c.loop-symbol.symbol-index _ _ _ c.loop-symbol-test.false refl refl c.loop-symbol.invariant
