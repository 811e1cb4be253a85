use Rattle.std.proofs.Common.{◌≤◌, not, refl, sym, ap, ◌∙◌, subst, arith, inl}
use Rattle.starlark_parse_held.specs.Held.{expression_of}
use Rattle.starlark_parse_build.specs.Operations.{Before, After, waits}
use Rattle.starlark_parse.specs.Expr.Operators.{binary_operator}
use Rattle.starlark_parse_cursor.proofs.Paths.{exits}
use Rattle.starlark_parse.proofs.ExprLemmas.OperationLemmas.{each_nothing, each_waits}
use Rattle.starlark_parse.proofs.ExprLemmas.Operators.{operand_fails, operands_found, operand_wants, in_is_due}
use Rattle.starlark_parse.proofs.ExprLemmas.Single.{first_due, first_read, operator_follows, right_due, one_operation, no_not_comes, none_is}
use Rattle.starlark_parse.proofs.expr.binary.all_operations.Goals as goal

pub returns-in_default-clause-parses : goal.returns-in_default-clause-parses
returns-in_default-clause-parses g c start n d =
    let none_comes = sym (ap binary_operator c.kind.ensures) ∙ sym c.binary_operator.ensures ∙ c.in_default.is in
    operands_found (first_due n) c.args.operand d c.args.operand none_comes refl

pub returns-in_err-take_operator-clause-parses : goal.returns-in_err-take_operator-clause-parses
returns-in_err-take_operator-clause-parses g c start n d =
    let comes = sym (ap binary_operator c.kind.ensures) ∙ sym c.binary_operator.ensures ∙ c.in-Some.is in
    let refused = c.in_err-take_operator.ensures.takes in
    exits _ _ _ _ _ _ _ c.from_residual.ensures.1 (in_is_due (first_due n) c.args.operand d comes (inl refl) refused.0 refused.1)

pub returns-then-at-clause-parses : goal.returns-then-at-clause-parses
returns-then-at-clause-parses g c start n d =
    let comes = sym (ap binary_operator c.kind.ensures) ∙ sym c.binary_operator.ensures ∙ c.in-Some.is in
    c.more_operations.ensures.parses start (operator_follows (first_read n c.args.operand d) comes (inl refl) refl c.in_ok-take_operator.ensures.takes)

pub returns-in_err-right-clause-parses : goal.returns-in_err-right-clause-parses
returns-in_err-right-clause-parses g c start n d =
    let comes = sym (ap binary_operator c.kind.ensures) ∙ sym c.binary_operator.ensures ∙ c.in-Some.is in
    exits _ _ _ _ _ _ _ c.from_residual-in_err-right.ensures.1
    (operand_fails (right_due (operator_follows (first_read n c.args.operand d) comes (inl refl) refl c.in_ok-take_operator.ensures.takes) (cc))
    c.in_err-right.ensures.parses)

pub returns-in_err-operation-clause-parses : goal.returns-in_err-operation-clause-parses
returns-in_err-operation-clause-parses g c start n d =
    let comes = sym (ap binary_operator c.kind.ensures) ∙ sym c.binary_operator.ensures ∙ c.in-Some.is in
    exits _ _ _ _ _ _ _ c.from_residual-in_err-operation.ensures.1
    (operand_wants (right_due (operator_follows (first_read n c.args.operand d) comes (inl refl) refl c.in_ok-take_operator.ensures.takes) (cc))
    c.in_ok-right.right c.in_ok-right.ensures.parses)

pub returns-then-is_none-clause-parses : goal.returns-then-is_none-clause-parses
returns-then-is_none-clause-parses g c start n d =
    let comes = sym (ap binary_operator c.kind.ensures) ∙ sym c.binary_operator.ensures ∙ c.in-Some.is in
    let none_comes = sym (ap binary_operator c.kind-2.ensures) ∙ sym c.binary_operator-2.ensures ∙ none_is _ (c.is_none.ensures ∙ ap not c.if-is_none.true) in
    one_operation _ c.args.operand (operator_follows (first_read n c.args.operand d) comes (inl refl) refl c.in_ok-take_operator.ensures.takes) (cc)
    c.in_ok-right.right c.in_ok-right.ensures.parses c.in_ok-operation.field-0 none_comes
    c.in_ok-operation.ensures.means

pub wait-requires-clause-before : goal.wait-requires-clause-before
wait-requires-clause-before g c =
    subst (λ w. Before c.args.operand.tree.value.span.end.byte w) (sym c.new-waiting.ensures.means)
    (each_nothing (λ b. b ≤ c.args.operand.tree.value.span.end.byte))

pub returns-in_err-wait-clause-parses : goal.returns-in_err-wait-clause-parses
returns-in_err-wait-clause-parses g c start n d =
    let comes = sym (ap binary_operator c.kind.ensures) ∙ sym c.binary_operator.ensures ∙ c.in-Some.is in
    exits _ _ _ _ _ _ _ c.from_residual-in_err-wait.ensures.1
    (operand_wants (right_due (operator_follows (first_read n c.args.operand d) comes (inl refl) refl c.in_ok-take_operator.ensures.takes) (cc))
    c.in_ok-right.right c.in_ok-right.ensures.parses)

pub operations-requires-clause-before : goal.operations-requires-clause-before
operations-requires-clause-before g c =
    let last = c.in_ok-right.right.tree.value.span.end.byte in
    subst (λ w. Before last w) (sym (c.in_ok-wait.ensures.waits ∙ ap (waits c.in-Some.operator c.args.cursor.now.end.byte (expression_of c.args.operand))
    c.new-waiting.ensures.means))
    (each_waits (λ b. b ≤ last) _ c.in-Some.operator _ (expression_of c.args.operand) (each_nothing (λ b. b ≤ last))
    (omega (
      arith,
      c.args.operand.tree.value.span.ordered,
      c.requires.ends,
      c.requires.ready.later,
      c.in_ok-take_operator.ensures.moves.later,
      c.in_ok-take_operator.ensures.moves.ready.later,
      c.in_ok-right.ensures.inside.0,
      c.in_ok-right.right.tree.value.span.ordered,
    )))

pub returns-clause-parses : goal.returns-clause-parses
returns-clause-parses g c start n d =
    let comes = sym (ap binary_operator c.kind.ensures) ∙ sym c.binary_operator.ensures ∙ c.in-Some.is in
    let waited = c.in_ok-wait.ensures.waits ∙ ap (waits c.in-Some.operator c.args.cursor.now.end.byte (expression_of c.args.operand))
    c.new-waiting.ensures.means in
    c.operations.ensures.parses start record {
      waited = _;
      before = _;
      due = _;
      begin = _;
      reads = operator_follows (first_read n c.args.operand d) comes (inl refl) waited c.in_ok-take_operator.ensures.takes;
      nots = no_not_comes _ (cc);
      operand = c.in_ok-right.ensures.parses;
    }

pub returns-clause-inside : goal.returns-clause-inside
returns-clause-inside g c =
    let begin = c.args.operand.tree.value.span.begin.byte in
    let first : begin ≤ c.args.operand.tree.value.span.begin.byte = omega (arith) in
    c.operations.ensures.inside begin
    (subst (λ w. After begin w) (sym (c.in_ok-wait.ensures.waits ∙ ap (waits c.in-Some.operator c.args.cursor.now.end.byte (expression_of c.args.operand))
    c.new-waiting.ensures.means))
    (each_waits (λ b. begin ≤ b) _ c.in-Some.operator _ (expression_of c.args.operand) (each_nothing (λ b. begin ≤ b)) first))
    (omega (
      arith,
      c.args.operand.tree.value.span.ordered,
      c.requires.ends,
      c.requires.ready.later,
      c.in_ok-take_operator.ensures.moves.later,
      c.in_ok-take_operator.ensures.moves.ready.later,
      c.in_ok-right.ensures.inside.0,
    ))
