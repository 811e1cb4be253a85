use Rattle.std.proofs.Common.{◌≡◌, arith, length, ap}
use Rattle.std.specs.List.{flat_map}
use Rattle.starlark_lexer.specs.Tokens.{span_of}
use Rattle.starlark_tree.specs.Inside.{inside, below}
use Rattle.starlark_tree.specs.Places.{behind, children}
use Rattle.starlark_tree.specs.Views.{expression_of, shape_seen}
use Rattle.starlark_tree.proofs.InsideLemmas.{below_children}
use Rattle.starlark_validate.specs.Clean.{all_in}
use Rattle.starlark_validate.proofs.FaultlessParts.{expression_clean}
use Rattle.starlark_validate.proofs.WorkLists.{popped_falls, popped_none}
use Rattle.starlark_validate.proofs.clean.are_clean.Goals as goal

pub loop-expr-smaller : goal.loop-expr-smaller
loop-expr-smaller c =
    let e = c.in-Some.expr.now in
    let same : length (below (shape_seen e.node)) ≡ length (flat_map inside (children e.node)) = ap length (below_children (shape_seen e.node)) in
    popped_falls (behind expression_of) inside c.loop-expr.exprs.items c.pop.new.self.items c.add_children.new.found.items c.in-Some.expr
    (children e.node) c.in-Some.ensures.items (rw c.in_ok-add_children.was at c.add_children.ensures).adds
    (omega (arith, same))

pub loop-expr-preserved : goal.loop-expr-preserved
loop-expr-preserved c = λ none.
    let d = c.args.tests.now.dialect in
    let e = c.in-Some.expr.now in
    c.loop-expr.invariant
    (popped_none (behind expression_of) (all_in d) c.loop-expr.exprs.items c.pop.new.self.items c.add_children.new.found.items c.in-Some.expr
    (children e.node) c.in-Some.ensures.items (rw c.in_ok-add_children.was at c.add_children.ensures).adds
    (expression_clean d (span_of e.span) (shape_seen e.node) (c.is_clean_expr.ensures.kept c.if-not-is_clean_expr.false)
    (c.is_clean_expr.ensures.own c.if-not-is_clean_expr.false)) none)
