use Rattle.std.proofs.Common.{◌++◌, ap, sym, ◌∙◌}
use Rattle.std.specs.List.{flat_map}
use Rattle.std.proofs.lemmas.List.Folds.{flat_map-map}
use Rattle.starlark_syntax.specs.outline.Outline.{top_statements}
use Rattle.starlark_syntax.specs.tree.Places.{behind}
use Rattle.starlark_syntax.specs.tree.Views.{statement_of}
use Rattle.starlark_syntax.proofs.outline.Outlines.{all_parts, one_more}
use Rattle.starlark_examples.specs.Rename.{definition}
use Rattle.starlark_examples.proofs.rename.spans.Goals as goal

pub loop-statement-preserved : goal.loop-statement-preserved
loop-statement-preserved c =
    one_more (λ s. definition c.args.name.now (statement_of s.now)) c.deref-statement-items.result.now c.loop-statement.statement-index c.statement-item.result
    _ _ _ c.loop-statement-test.true c.statement-item.is c.loop-statement.invariant c.in_ok-add_definition.ensures

pub returns : goal.returns
returns c =
    all_parts (λ s. definition c.args.name.now (statement_of s.now)) c.deref-statement-items.result.now c.in_ok-top_level_stmts.field-0.items
    c.loop-statement.statement-index _ _ _ c.loop-statement-test.false c.deref-statement-items.ensures.value
    (ap (flat_map (definition c.args.name.now)) (sym c.in_ok-top_level_stmts.ensures)
    ∙ flat_map-map (definition c.args.name.now) (behind statement_of) c.in_ok-top_level_stmts.field-0.items) c.loop-statement.invariant
    ∙ ap (λ l. l ++ flat_map (definition c.args.name.now) (top_statements (statement_of c.args.top.now))) c.in_ok-spans.ensures
