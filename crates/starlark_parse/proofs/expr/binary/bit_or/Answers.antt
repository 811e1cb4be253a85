use Rattle.std.proofs.Common.{rules, ◌≤◌, refl, sym, ap, ◌∙◌, subst, arith}
use Rattle.starlark_tree.specs.Ast.{expression_span}
use Rattle.starlark_parse_held.specs.Held.{expression_of}
use Rattle.starlark_parse_build.specs.Operations.{Before, After}
use Rattle.starlark_parse_cursor.specs.Reading.{at, begin_at}
use Rattle.starlark_parse_cursor.proofs.Paths.{exits}
use Rattle.starlark_parse.specs.Expr.Operators.{tight_operator}
use Rattle.starlark_parse.proofs.ExprLemmas.OperationLemmas.{each_nothing, each_waits, each_built, each_weaker}
use Rattle.starlark_parse.proofs.ExprLemmas.Operators.{inner_yet, inner_fails, inner_wants, inner_found, inner_taken, inner_no_in, tight_binary}
use Rattle.starlark_parse.proofs.expr.binary.bit_or.Goals as goal

pub operands-init : goal.operands-init
operands-init g c = record {
  same_reference = refl;
  ready = c.requires.ready;
  fewer = omega (arith);
  later = omega (arith);
  before = subst (λ w. Before c.args.cursor.now.end.byte w) (sym c.new-waiting.ensures.means) (each_nothing (λ b. b ≤ c.args.cursor.now.end.byte));
  after = subst (λ w. After (begin_at (at c.args.cursor.now)) w) (sym c.new-waiting.ensures.means) (each_nothing (λ b. begin_at (at c.args.cursor.now) ≤ b));
  operands = inner_yet _ c.new-waiting.ensures.means;
}

pub returns-in_err-operand-clause-parses : goal.returns-in_err-operand-clause-parses
returns-in_err-operand-clause-parses g c = exits _ _ _ _ _ _ _ c.from_residual.ensures.1
    (inner_fails c.operands.invariant.operands c.in_err-operand.ensures.parses)

pub finish-requires-clause-before : goal.finish-requires-clause-before
finish-requires-clause-before g c =
    each_weaker (λ b. b ≤ c.operands.cursor.end.byte) (λ b. b ≤ c.in_ok-operand.operand.tree.value.span.end.byte)
    (λ b k. omega (arith, k, c.operands.invariant.ready.later, c.in_ok-operand.ensures.inside.0, c.in_ok-operand.operand.tree.value.span.ordered)) _
    c.operands.invariant.before

pub returns-in_err-finish-clause-parses : goal.returns-in_err-finish-clause-parses
returns-in_err-finish-clause-parses g c =
    exits _ _ _ _ _ _ _ c.from_residual-in_err-finish.ensures.1
    (inner_wants c.operands.invariant.operands c.in_ok-operand.operand c.in_ok-operand.ensures.parses)

pub returns-in_default-clause-parses : goal.returns-in_default-clause-parses
returns-in_default-clause-parses g c =
    let none_comes = sym (ap tight_operator c.kind.ensures) ∙ sym c.tight_operator.ensures ∙ c.in_default.is in
    inner_found c.operands.invariant.operands c.in_ok-operand.operand c.in_ok-operand.ensures.parses c.in_ok-finish.field-0 none_comes
    c.in_ok-finish.ensures.means

pub returns-in_default-clause-inside : goal.returns-in_default-clause-inside
returns-in_default-clause-inside g c = (
  subst (λ x. begin_at (at c.args.cursor.now) ≤ (expression_span x).begin) (sym c.in_ok-finish.ensures.means)
      (each_built (λ b. begin_at (at c.args.cursor.now) ≤ b) _ _ _ c.operands.invariant.after (omega (
        arith,
        c.operands.invariant.later,
        c.in_ok-operand.ensures.inside.0,
      ))),
  c.in_ok-finish.ensures.ends,
)

pub wait-requires-clause-before : goal.wait-requires-clause-before
wait-requires-clause-before g c =
    each_weaker (λ b. b ≤ c.operands.cursor.end.byte) (λ b. b ≤ c.in_ok-operand.operand.tree.value.span.end.byte)
    (λ b k. omega (arith, k, c.operands.invariant.ready.later, c.in_ok-operand.ensures.inside.0, c.in_ok-operand.operand.tree.value.span.ordered)) _
    c.operands.invariant.before

pub returns-in_err-wait-clause-parses : goal.returns-in_err-wait-clause-parses
returns-in_err-wait-clause-parses g c =
    exits _ _ _ _ _ _ _ c.from_residual-in_err-wait.ensures.1 (inner_wants c.operands.invariant.operands c.in_ok-operand.operand c.in_ok-operand.ensures.parses)

pub take_operator-requires-clause-operator : goal.take_operator-requires-clause-operator
take_operator-requires-clause-operator g c = tight_binary _ (sym (ap tight_operator c.kind.ensures) ∙ sym c.tight_operator.ensures ∙ c.in-Some.is)

pub operands-preserved : goal.operands-preserved
operands-preserved g c =
    let comes = sym (ap tight_operator c.kind.ensures) ∙ sym c.tight_operator.ensures ∙ c.in-Some.is in
    let operand = c.in_ok-operand.operand in
    let waits = c.in_ok-wait.ensures.waits in
    record {
      same_reference = search rules;
      ready = search rules;
      fewer = omega (arith, c.operands.invariant.fewer, c.in_ok-operand.ensures.moves.fewer, c.in_ok-take_operator.ensures.moves.fewer);
      later = omega (
        arith,
        c.operands.invariant.later,
        c.in_ok-operand.ensures.moves.later,
        c.in_ok-operand.ensures.moves.ready.later,
        c.in_ok-take_operator.ensures.moves.later,
        c.in_ok-take_operator.ensures.moves.ready.later,
      );
      before = subst (λ w. Before c.take_operator.new.cursor.end.byte w) (sym waits)
          (each_waits (λ b. b ≤ c.take_operator.new.cursor.end.byte) _ c.in-Some.operator _ (expression_of operand)
          (each_weaker (λ b. b ≤ c.operands.cursor.end.byte) (λ b. b ≤ c.take_operator.new.cursor.end.byte)
          (λ b k. omega (
            arith,
            k,
            c.operands.invariant.ready.later,
            c.in_ok-operand.ensures.moves.later,
            c.in_ok-operand.ensures.moves.ready.later,
            c.in_ok-take_operator.ensures.moves.later,
          )) _ c.operands.invariant.before)
          (omega (
            arith,
            operand.tree.value.span.ordered,
            c.in_ok-operand.ensures.inside.1,
            c.in_ok-operand.ensures.moves.ready.later,
            c.in_ok-take_operator.ensures.moves.later,
          )));
      after = subst (λ w. After (begin_at (at c.args.cursor.now)) w) (sym waits)
          (each_waits (λ b. begin_at (at c.args.cursor.now) ≤ b) _ c.in-Some.operator _ (expression_of operand) c.operands.invariant.after
          (omega (arith, c.operands.invariant.later, c.in_ok-operand.ensures.inside.0)));
      operands = inner_taken c.operands.invariant.operands operand c.in_ok-operand.ensures.parses comes _ waits c.in_ok-take_operator.ensures.takes;
    }

pub returns-in_err-take_operator-clause-parses : goal.returns-in_err-take_operator-clause-parses
returns-in_err-take_operator-clause-parses g c =
    let comes = sym (ap tight_operator c.kind.ensures) ∙ sym c.tight_operator.ensures ∙ c.in-Some.is in
    inner_no_in c.operands.invariant.operands c.in_ok-operand.operand c.in_ok-operand.ensures.parses comes c.in_err-take_operator.ensures.takes.0
