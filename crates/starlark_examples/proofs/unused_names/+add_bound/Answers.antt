use Rattle.starlark_syntax.specs.tree.Names.{name_of}
use Rattle.starlark_syntax.specs.tree.Views.{statement_of}
use Rattle.starlark_syntax.proofs.outline.Outlines.{all_parts, one_more}
use Rattle.starlark_examples.specs.UnusedNames.{bound_names}
use Rattle.starlark_examples.proofs.BoundNames.{all_items, block_names, symbol_names}
use Rattle.starlark_examples.proofs.unused_names.+add_bound.Goals as goal

pub loop-part-preserved : goal.loop-part-preserved
loop-part-preserved t c =
    one_more (λ x. bound_names (statement_of x)) c.deref-part-items.result.now c.loop-part.part-index c.part-item.result _ _ _ c.loop-part-test.true
    c.part-item.is c.loop-part.invariant c.in_ok-add_bound-in-Statements.ensures

pub returns-after-loop-part : goal.returns-after-loop-part
returns-after-loop-part t c =
    all_parts (λ x. bound_names (statement_of x)) c.deref-part-items.result.now c.in-Statements.parts.items c.loop-part.part-index _ _ _ c.loop-part-test.false
    c.deref-part-items.ensures.value
    (block_names c.args.statement.now c.in-Statements.parts c.in-Statements.is) c.loop-part.invariant

pub returns-after-loop-arg : goal.returns-after-loop-arg
returns-after-loop-arg t c =
    all_items (λ x. name_of x.local) c.deref-arg-items.result.now c.in-Load.load.args.items c.loop-arg.arg-index _ _ _ c.loop-arg-test.false
    c.deref-arg-items.ensures.value
    (symbol_names c.args.statement.now c.in-Load.load c.in-Load.is) c.loop-arg.invariant
