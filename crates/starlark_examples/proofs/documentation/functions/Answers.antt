use Rattle.std.proofs.Common.{[], ap, sym, ◌∙◌}
use Rattle.std.specs.List.{flat_map}
use Rattle.std.proofs.lemmas.List.Folds.{flat_map-map}
use Rattle.starlark_syntax.specs.outline.Outline.{top_statements}
use Rattle.starlark_syntax.specs.tree.Places.{behind}
use Rattle.starlark_syntax.specs.tree.Views.{statement_of}
use Rattle.starlark_syntax.proofs.outline.Outlines.{all_parts, one_more}
use Rattle.starlark_examples.specs.Documentation.{documented}
use Rattle.starlark_examples.proofs.documentation.functions.Goals as goal

pub loop-statement-preserved : goal.loop-statement-preserved
loop-statement-preserved c =
    one_more (λ s. documented (statement_of s.now)) c.deref-statement-items.result.now c.loop-statement.statement-index c.statement-item.result [] _ _
    c.loop-statement-test.true c.statement-item.is c.loop-statement.invariant c.in_ok-add_function.ensures

pub returns : goal.returns
returns c =
    all_parts (λ s. documented (statement_of s.now)) c.deref-statement-items.result.now c.in_ok-top_level_stmts.field-0.items c.loop-statement.statement-index
    [] _ _ c.loop-statement-test.false c.deref-statement-items.ensures.value
    (ap (λ s. flat_map documented (top_statements (statement_of s))) (sym c.statement.ensures)
    ∙ ap (flat_map documented) (sym c.in_ok-top_level_stmts.ensures) ∙ flat_map-map documented (behind statement_of) c.in_ok-top_level_stmts.field-0.items)
    c.loop-statement.invariant
