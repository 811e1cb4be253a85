use Rattle.std.proofs.Common.{◌++◌, ◌∷◌, [], map, ap, sym, ◌∙◌}
use Rattle.std.proofs.lemmas.List.{map-append}
use Rattle.starlark_lexer.specs.Tokens.{span_of}
use Rattle.starlark_tree.specs.Places.{behind}
use Rattle.starlark_tree.specs.Views.{statement_of}
use Rattle.starlark_passes.specs.Outline.Outline.{top_statements}
use Rattle.starlark_passes.proofs.OutlineLemmas.Outlines.{one_more, all_parts, part_falls, block_top}
use Rattle.starlark_passes.proofs.OutlineLemmas.TopLemmas.{alone}
use Rattle.starlark_passes.proofs.outline.top_level_stmts.+add_top.Goals as goal

pub add_top-requires : goal.add_top-requires
add_top-requires g t c κs within = (
  part_falls c.in-Statements.parts c.deref-part-items.result.now c.loop-part.part-index c.part-item.result c.args.statement.now.node t c.loop-part-test.true
      c.part-item.is c.deref-part-items.ensures.value c.in-Statements.is c.decreases,
  within,
)

pub loop-part-preserved : goal.loop-part-preserved
loop-part-preserved g t c =
    one_more (λ s. top_statements (statement_of s)) c.deref-part-items.result.now c.loop-part.part-index c.part-item.result _ _ _ c.loop-part-test.true
    c.part-item.is c.loop-part.invariant c.in_ok-add_top.ensures

pub returns-after-loop-part : goal.returns-after-loop-part
returns-after-loop-part g t c =
    all_parts (λ s. top_statements (statement_of s)) c.deref-part-items.result.now c.in-Statements.parts.items c.loop-part.part-index _ _ _
    c.loop-part-test.false c.deref-part-items.ensures.value
    (block_top c.args.statement.now c.in-Statements.parts c.in-Statements.is) c.loop-part.invariant

pub returns-in_ok-push : goal.returns-in_ok-push
returns-in_ok-push g t c =
    ap (map (behind statement_of)) c.in_ok-push.ensures.items
    ∙ map-append (behind statement_of) c.args.found.now.items (c.args.statement ∷ [])
    ∙ ap (λ l. map (behind statement_of) c.args.found.now.items ++ l)
    (sym (alone (span_of c.args.statement.now.span) c.args.statement.now.node c.in_default.not-Statements))
