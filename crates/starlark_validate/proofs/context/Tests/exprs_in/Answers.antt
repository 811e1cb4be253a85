use Rattle.std.proofs.Common.{map, ap, ◌∙◌}
use Rattle.std.specs.List.{flat_map}
use Rattle.starlark_tree.specs.Places.{behind}
use Rattle.starlark_tree.specs.Views.{expression_of}
use Rattle.starlark_validate.specs.KeptTreeFaults.{in_expression}
use Rattle.starlark_validate.proofs.ItemTests.{each_more, each_stops, each_done}
use Rattle.starlark_validate.proofs.TestSequences.{nothing, of_faults, same_err}
use Rattle.starlark_validate.proofs.context.Tests.exprs_in.Goals as goal

pub loop-expr-init : goal.loop-expr-init
loop-expr-init c = nothing

pub returns-in_err-expr : goal.returns-in_err-expr
returns-in_err-expr c =
    rw (same_err c.from_residual-in_err-expr.result c.in_err-expr.field-0.0 c.from_residual-in_err-expr.ensures.1)
    (of_faults (ap (λ rs. flat_map (in_expression c.args.self.now.dialect) (map (behind expression_of) rs)) c.deref-expr-items.ensures.value
    ∙ ap (flat_map (in_expression c.args.self.now.dialect)) c.in_ok-exprs.ensures)
    (each_stops (in_expression c.args.self.now.dialect) (behind expression_of) c.deref-expr-items.result.now c.loop-expr.expr-index c.expr-item.result
    c.loop-expr.invariant c.loop-expr-test.true c.expr-item.is (rw c.in_err-expr.was at c.expr.ensures)))

pub loop-expr-preserved : goal.loop-expr-preserved
loop-expr-preserved c =
    each_more (in_expression c.args.self.now.dialect) (behind expression_of) c.deref-expr-items.result.now c.loop-expr.expr-index c.expr-item.result
    c.loop-expr.invariant c.loop-expr-test.true c.expr-item.is (rw c.in_ok-expr.was at c.expr.ensures)

pub returns : goal.returns
returns c =
    of_faults (ap (λ rs. flat_map (in_expression c.args.self.now.dialect) (map (behind expression_of) rs)) c.deref-expr-items.ensures.value
    ∙ ap (flat_map (in_expression c.args.self.now.dialect)) c.in_ok-exprs.ensures)
    (each_done (in_expression c.args.self.now.dialect) (behind expression_of) c.deref-expr-items.result.now c.loop-expr.expr-index c.loop-expr.invariant
    c.loop-expr-test.false)
