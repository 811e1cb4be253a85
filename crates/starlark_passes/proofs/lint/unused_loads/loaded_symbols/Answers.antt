use Rattle.std.proofs.Common.{[], ap, sym, ◌∙◌}
use Rattle.std.specs.List.{flat_map}
use Rattle.std.proofs.lemmas.List.Folds.{flat_map-map}
use Rattle.starlark_tree.specs.Places.{behind}
use Rattle.starlark_tree.specs.Views.{statement_of}
use Rattle.starlark_passes.specs.Lint.LintIssues.{loaded}
use Rattle.starlark_passes.proofs.OutlineLemmas.Outlines.{one_more, all_parts}
use Rattle.starlark_passes.proofs.lint.unused_loads.loaded_symbols.Goals as goal

pub loop-statement-preserved : goal.loop-statement-preserved
loop-statement-preserved c =
    one_more (λ s. loaded (statement_of s.now)) c.deref-statement-items.result.now c.loop-statement.statement-index c.statement-item.result [] _ _
    c.loop-statement-test.true c.statement-item.is c.loop-statement.invariant c.in_ok-add_symbols.ensures

pub returns : goal.returns
returns c =
    all_parts (λ s. loaded (statement_of s.now)) c.deref-statement-items.result.now c.in_ok-statements.statements.items c.loop-statement.statement-index [] _
    _ c.loop-statement-test.false c.deref-statement-items.ensures.value
    (ap (flat_map loaded) (sym c.in_ok-statements.ensures) ∙ flat_map-map loaded (behind statement_of) c.in_ok-statements.statements.items)
    c.loop-statement.invariant
