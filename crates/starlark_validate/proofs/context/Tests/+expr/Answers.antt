use Rattle.std.proofs.Common.{◌<◌, length, map, ap, ◌∙◌, subst}
use Rattle.starlark_lexer.specs.Tokens.{span_of}
use Rattle.starlark_tree.specs.Inside.{inside}
use Rattle.starlark_tree.specs.Places.{behind}
use Rattle.starlark_tree.specs.Views.{expression_of, shape_seen}
use Rattle.starlark_validate.specs.KeptTreeFaults.{in_expression}
use Rattle.starlark_validate.specs.Walks.InText.{own_kept}
use Rattle.starlark_validate.proofs.TextOrder.{child_falls}
use Rattle.starlark_validate.proofs.ItemTests.{each_more, each_stops, each_done}
use Rattle.starlark_validate.proofs.KeptChildren.{with_own}
use Rattle.starlark_validate.proofs.TestSequences.{nothing, of_faults, same_err, stops, then}
use Rattle.starlark_validate.proofs.context.Tests.+expr.Goals as goal

pub loop-child-init : goal.loop-child-init
loop-child-init t c = nothing

pub expr-requires : goal.expr-requires
expr-requires t c = (
  subst (λ n. length (inside (expression_of c.child-item.result.now)) < n) c.decreases
      (child_falls (behind expression_of) c.deref-child-items.result.now c.loop-child.child-index c.child-item.result (span_of c.args.expr.now.span)
      (shape_seen c.args.expr.now.node) c.loop-child-test.true c.child-item.is
      (ap (map (behind expression_of)) c.deref-child-items.ensures.value ∙ c.in_ok-children.ensures)),
  tt,
)

pub returns-in_err-expr : goal.returns-in_err-expr
returns-in_err-expr t c =
    rw (same_err c.from_residual-in_err-expr.result c.in_err-expr.field-0.0 c.from_residual-in_err-expr.ensures.1)
    (of_faults (with_own c.args.self.now.dialect (shape_seen c.args.expr.now.node) (ap (map (behind expression_of)) c.deref-child-items.ensures.value
    ∙ c.in_ok-children.ensures))
    (stops (own_kept c.args.self.now.dialect (shape_seen c.args.expr.now.node))
    (each_stops (in_expression c.args.self.now.dialect) (behind expression_of) c.deref-child-items.result.now c.loop-child.child-index c.child-item.result
    c.loop-child.invariant c.loop-child-test.true c.child-item.is (rw c.in_err-expr.was at c.expr.ensures))))

pub loop-child-preserved : goal.loop-child-preserved
loop-child-preserved t c =
    each_more (in_expression c.args.self.now.dialect) (behind expression_of) c.deref-child-items.result.now c.loop-child.child-index c.child-item.result
    c.loop-child.invariant c.loop-child-test.true c.child-item.is (rw c.in_ok-expr.was at c.expr.ensures)

pub returns : goal.returns
returns t c =
    of_faults (with_own c.args.self.now.dialect (shape_seen c.args.expr.now.node) (ap (map (behind expression_of)) c.deref-child-items.ensures.value
    ∙ c.in_ok-children.ensures))
    (then (each_done (in_expression c.args.self.now.dialect) (behind expression_of) c.deref-child-items.result.now c.loop-child.child-index
    c.loop-child.invariant c.loop-child-test.false) c.expr_itself.ensures)
