use Rattle.std.proofs.Common.{map, ap, ◌∙◌}
use Rattle.std.specs.Str.{bytes_eq}
use Rattle.indexmap.specs.IndexMap.{insert_entry}
use Rattle.starlark_passes.specs.Outline.Listed.{symbol}
use Rattle.starlark_passes.proofs.OutlineLemmas.Outlines.{inserted, one_more_symbol}
use Rattle.starlark_passes.proofs.outline.ast_load.loaded_symbols.Goals as goal

pub loop-arg-preserved : goal.loop-arg-preserved
loop-arg-preserved c =
    one_more_symbol c.args.args.now c.loop-arg.arg-index c.arg-item.result _ _ c.loop-arg-test.true c.arg-item.is c.loop-arg.invariant
    (ap (map symbol) c.in_ok-insert.ensures.entries ∙ inserted c.loop-arg.symbols.entries c.as_str.result c.as_str-in-loop-arg.result
    ∙ ap (λ k. insert_entry bytes_eq (map symbol c.loop-arg.symbols.entries) k c.as_str-in-loop-arg.result.now) c.as_str.ensures.value
    ∙ ap (insert_entry bytes_eq (map symbol c.loop-arg.symbols.entries) _) c.as_str-in-loop-arg.ensures.value)
