use Rattle.std.proofs.Common.{rules, ◌≤◌, refl, sym, ap, ◌∙◌, subst, arith, le_trans}
use Rattle.starlark_tree.specs.Ast.{expression_span}
use Rattle.starlark_parse_held.specs.Held.{expression_of}
use Rattle.starlark_parse_build.specs.Operations.{Before, After, is_comparison}
use Rattle.starlark_parse.specs.Expr.Operators.{binary_operator}
use Rattle.starlark_parse_cursor.proofs.Paths.{exits}
use Rattle.starlark_parse.proofs.ExprLemmas.OperationLemmas.{each_waits, each_built, each_weaker}
use Rattle.starlark_parse.proofs.ExprLemmas.Operators.{two_comparisons, one_comparison, nots_taken, nots_before, nots_after, operand_fails, operands_found}
use Rattle.starlark_parse.proofs.ExprLemmas.Operators.{comparison_refused, in_is_due, nots_want, operand_wants}
use Rattle.starlark_parse.proofs.ExprLemmas.Single.{has_read, read_due, operator_follows, operand_follows}
use Rattle.starlark_parse.proofs.expr.binary.operations.Goals as goal

pub operands-init : goal.operands-init
operands-init g c = record {
  same_reference = refl;
  ready = c.requires.ready;
  fewer = omega (arith);
  later = omega (arith);
  before = c.requires.before;
  ends = c.requires.ends;
  after = λ begin h l. (h, l);
  read = λ start h. h;
}

pub returns-in_default-clause-parses : goal.returns-in_default-clause-parses
returns-in_default-clause-parses g c start h =
    let r = c.operands.invariant.read start h in
    let none_comes = sym (ap binary_operator c.kind.ensures) ∙ sym c.binary_operator.ensures ∙ c.in_default.is in
    operands_found (read_due r) c.operands.operand r.operand c.in_ok-finish.field-0 none_comes c.in_ok-finish.ensures.means

pub returns-in_default-clause-inside : goal.returns-in_default-clause-inside
returns-in_default-clause-inside g c begin h l =
    let k = c.operands.invariant.after begin h l in (
      subst (λ x. begin ≤ (expression_span x).begin) (sym c.in_ok-finish.ensures.means) (each_built (λ b. begin ≤ b) _ _ _ k.0 k.1),
      c.in_ok-finish.ensures.ends,
    )

pub returns-in_err-finish-clause-parses : goal.returns-in_err-finish-clause-parses
returns-in_err-finish-clause-parses g c start h =
    let r = c.operands.invariant.read start h in
    exits _ _ _ _ _ _ _ c.from_residual.ensures.1 (operand_wants (read_due r) c.operands.operand r.operand)

pub returns-then-compares_twice-clause-parses : goal.returns-then-compares_twice-clause-parses
returns-then-compares_twice-clause-parses g c start h =
    let r = c.operands.invariant.read start h in
    let comes = sym (ap binary_operator c.kind.ensures) ∙ sym c.binary_operator.ensures ∙ c.in-Some.is in
    let two = two_comparisons (is_comparison c.in-Some.operator) _ (sym c.compares_twice.ensures ∙ c.if-compares_twice.true) in
    comparison_refused (read_due r) c.operands.operand r.operand comes two.0 two.1 refl c.refusal.ensures

pub returns-in_err-wait-clause-parses : goal.returns-in_err-wait-clause-parses
returns-in_err-wait-clause-parses g c start h =
    let r = c.operands.invariant.read start h in
    exits _ _ _ _ _ _ _ c.from_residual-in_err-wait.ensures.1 (operand_wants (read_due r) c.operands.operand r.operand)

pub returns-in_err-take_operator-clause-parses : goal.returns-in_err-take_operator-clause-parses
returns-in_err-take_operator-clause-parses g c start h =
    let r = c.operands.invariant.read start h in
    let comes = sym (ap binary_operator c.kind.ensures) ∙ sym c.binary_operator.ensures ∙ c.in-Some.is in
    let one = one_comparison (is_comparison c.in-Some.operator) _ (sym c.compares_twice.ensures ∙ c.if-compares_twice.false) in
    let refused = c.in_err-take_operator.ensures.takes in
    exits _ _ _ _ _ _ _ c.from_residual-in_err-take_operator.ensures.1 (in_is_due (read_due r) c.operands.operand r.operand comes one refused.0 refused.1)

pub returns-in_err-take_nots-clause-parses : goal.returns-in_err-take_nots-clause-parses
returns-in_err-take_nots-clause-parses g c start h =
    let r = c.operands.invariant.read start h in
    let comes = sym (ap binary_operator c.kind.ensures) ∙ sym c.binary_operator.ensures ∙ c.in-Some.is in
    let one = one_comparison (is_comparison c.in-Some.operator) _ (sym c.compares_twice.ensures ∙ c.if-compares_twice.false) in
    exits _ _ _ _ _ _ _ c.from_residual-in_err-take_nots.ensures.1
    (nots_want (has_read (operator_follows r comes one c.in_ok-wait.ensures.waits c.in_ok-take_operator.ensures.takes)) c.in_err-take_nots.ensures.takes)

pub returns-in_err-operand-clause-parses : goal.returns-in_err-operand-clause-parses
returns-in_err-operand-clause-parses g c start h =
    let r = c.operands.invariant.read start h in
    let comes = sym (ap binary_operator c.kind.ensures) ∙ sym c.binary_operator.ensures ∙ c.in-Some.is in
    let one = one_comparison (is_comparison c.in-Some.operator) _ (sym c.compares_twice.ensures ∙ c.if-compares_twice.false) in
    exits _ _ _ _ _ _ _ c.from_residual-in_err-operand.ensures.1
    (operand_fails (nots_taken (has_read (operator_follows r comes one c.in_ok-wait.ensures.waits c.in_ok-take_operator.ensures.takes))
    c.in_ok-take_nots.ensures.takes) c.in_err-operand.ensures.parses)

pub operands-preserved : goal.operands-preserved
operands-preserved g c =
    let comes = sym (ap binary_operator c.kind.ensures) ∙ sym c.binary_operator.ensures ∙ c.in-Some.is in
    let one = one_comparison (is_comparison c.in-Some.operator) _ (sym c.compares_twice.ensures ∙ c.if-compares_twice.false) in
    let left = c.operands.operand in
    let waits = c.in_ok-wait.ensures.waits in
    let right = c.in_ok-operand.operand in
    record {
      same_reference = search rules;
      ready = search rules;
      fewer = omega (
        arith,
        c.operands.invariant.fewer,
        c.in_ok-take_operator.ensures.moves.fewer,
        c.in_ok-take_nots.ensures.moves.fewer,
        c.in_ok-operand.ensures.moves.fewer,
      );
      later = omega (
        arith,
        c.operands.invariant.later,
        c.operands.invariant.ready.later,
        c.in_ok-take_operator.ensures.moves.later,
        c.in_ok-take_operator.ensures.moves.ready.later,
        c.in_ok-take_nots.ensures.later,
        c.in_ok-operand.ensures.moves.later,
      );
      before = nots_before c.in_ok-take_nots.ensures.takes
          (subst (λ w. Before c.take_operator.new.cursor.end.byte w) (sym waits)
          (each_waits (λ b. b ≤ c.take_operator.new.cursor.end.byte) _ c.in-Some.operator _ (expression_of left)
          (each_weaker (λ b. b ≤ left.tree.value.span.end.byte) (λ b. b ≤ c.take_operator.new.cursor.end.byte)
          (λ b k. omega (arith, k, c.operands.invariant.ends, c.operands.invariant.ready.later, c.in_ok-take_operator.ensures.moves.later)) _
          c.operands.invariant.before)
          (omega (
            arith,
            left.tree.value.span.ordered,
            c.operands.invariant.ends,
            c.operands.invariant.ready.later,
            c.in_ok-take_operator.ensures.moves.later,
          ))))
          c.in_ok-take_operator.ensures.moves.ready.later c.in_ok-take_nots.ensures.later c.in_ok-take_nots.ensures.moves.ready.later
          (le_trans c.in_ok-operand.ensures.inside.0 right.tree.value.span.ordered);
      ends = c.in_ok-operand.ensures.inside.1;
      after = λ begin h l.
          let k = c.operands.invariant.after begin h l in (
            nots_after c.in_ok-take_nots.ensures.takes (subst (λ w. After begin w) (sym waits)
                (each_waits (λ b. begin ≤ b) _ c.in-Some.operator _ (expression_of left) k.0 k.1))
                (omega (
                  arith,
                  k.1,
                  left.tree.value.span.ordered,
                  c.operands.invariant.ends,
                  c.operands.invariant.ready.later,
                  c.in_ok-take_operator.ensures.moves.later,
                  c.in_ok-take_operator.ensures.moves.ready.later,
                )),
            omega (
              arith,
              k.1,
              left.tree.value.span.ordered,
              c.operands.invariant.ends,
              c.operands.invariant.ready.later,
              c.in_ok-take_operator.ensures.moves.later,
              c.in_ok-take_operator.ensures.moves.ready.later,
              c.in_ok-take_nots.ensures.later,
              c.in_ok-operand.ensures.inside.0,
            ),
          );
      read = λ start h. operand_follows (c.operands.invariant.read start h) comes one waits c.in_ok-take_operator.ensures.takes right
          c.in_ok-take_nots.ensures.takes c.in_ok-operand.ensures.parses;
    }
