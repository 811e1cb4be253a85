use Rattle.std.proofs.Common.{◌≤◌, sym, ap, ◌∙◌, subst, arith, le_trans}
use Rattle.starlark_parse_held.specs.Held.{expression_of}
use Rattle.starlark_parse_build.specs.Operations.{Before, After, waits}
use Rattle.starlark_parse_cursor.proofs.Paths.{exits}
use Rattle.starlark_parse.proofs.ExprLemmas.OperationLemmas.{each_nothing, each_waits}
use Rattle.starlark_parse.proofs.ExprLemmas.Operators.{nots_taken, nots_want, nots_before, nots_after, operand_fails}
use Rattle.starlark_parse.proofs.ExprLemmas.Single.{has_read, has_read_as, operator_wants}
use Rattle.starlark_parse.proofs.expr.binary.more_operations.Goals as goal

pub returns-in_err-wait-clause-parses : goal.returns-in_err-wait-clause-parses
returns-in_err-wait-clause-parses g c start h = exits _ _ _ _ _ _ _ c.from_residual.ensures.1 (operator_wants h)

pub wait-requires-clause-before : goal.wait-requires-clause-before
wait-requires-clause-before g c =
    subst (λ w. Before c.args.left.tree.value.span.end.byte w) (sym c.new-waiting.ensures.means) (each_nothing (λ b. b ≤ c.args.left.tree.value.span.end.byte))

pub returns-in_err-take_nots-clause-parses : goal.returns-in_err-take_nots-clause-parses
returns-in_err-take_nots-clause-parses g c start h =
    let waited = c.in_ok-wait.ensures.waits ∙ ap (waits c.args.operator c.args.end.byte (expression_of c.args.left)) c.new-waiting.ensures.means in
    exits _ _ _ _ _ _ _ c.from_residual-in_err-take_nots.ensures.1 (nots_want (has_read (has_read_as waited h)) c.in_err-take_nots.ensures.takes)

pub returns-in_err-operand-clause-parses : goal.returns-in_err-operand-clause-parses
returns-in_err-operand-clause-parses g c start h =
    let waited = c.in_ok-wait.ensures.waits ∙ ap (waits c.args.operator c.args.end.byte (expression_of c.args.left)) c.new-waiting.ensures.means in
    exits _ _ _ _ _ _ _ c.from_residual-in_err-operand.ensures.1
    (operand_fails (nots_taken (has_read (has_read_as waited h)) c.in_ok-take_nots.ensures.takes) c.in_err-operand.ensures.parses)

pub operations-requires-clause-before : goal.operations-requires-clause-before
operations-requires-clause-before g c =
    nots_before c.in_ok-take_nots.ensures.takes
    (subst (λ w. Before c.args.cursor.now.end.byte w) (sym (c.in_ok-wait.ensures.waits
    ∙ ap (waits c.args.operator c.args.end.byte (expression_of c.args.left)) c.new-waiting.ensures.means))
    (each_waits (λ b. b ≤ c.args.cursor.now.end.byte) _ c.args.operator _ (expression_of c.args.left) (each_nothing (λ b. b ≤ c.args.cursor.now.end.byte))
    (omega (arith, c.args.left.tree.value.span.ordered, c.requires.left, c.requires.ends))))
    c.requires.ready.later c.in_ok-take_nots.ensures.later c.in_ok-take_nots.ensures.moves.ready.later
    (le_trans c.in_ok-operand.ensures.inside.0 c.in_ok-operand.operand.tree.value.span.ordered)

pub returns-clause-parses : goal.returns-clause-parses
returns-clause-parses g c start h =
    let waited = c.in_ok-wait.ensures.waits ∙ ap (waits c.args.operator c.args.end.byte (expression_of c.args.left)) c.new-waiting.ensures.means in
    c.operations.ensures.parses start record {
      waited = _;
      before = _;
      due = _;
      begin = _;
      reads = has_read_as waited h;
      nots = c.in_ok-take_nots.ensures.takes;
      operand = c.in_ok-operand.ensures.parses;
    }

pub returns-clause-inside : goal.returns-clause-inside
returns-clause-inside g c =
    let begin = c.args.left.tree.value.span.begin.byte in
    let first : begin ≤ c.args.left.tree.value.span.begin.byte = omega (arith) in
    c.operations.ensures.inside begin
    (nots_after c.in_ok-take_nots.ensures.takes
    (subst (λ w. After begin w) (sym (c.in_ok-wait.ensures.waits ∙ ap (waits c.args.operator c.args.end.byte (expression_of c.args.left))
    c.new-waiting.ensures.means))
    (each_waits (λ b. begin ≤ b) _ c.args.operator _ (expression_of c.args.left) (each_nothing (λ b. begin ≤ b)) first))
    (omega (arith, c.args.left.tree.value.span.ordered, c.requires.left, c.requires.ends, c.requires.ready.later)))
    (omega (
      arith,
      c.args.left.tree.value.span.ordered,
      c.requires.left,
      c.requires.ends,
      c.requires.ready.later,
      c.in_ok-take_nots.ensures.later,
      c.in_ok-operand.ensures.inside.0,
    ))
