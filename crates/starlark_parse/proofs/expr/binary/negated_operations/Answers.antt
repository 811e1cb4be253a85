use Rattle.std.proofs.Common.{◌≤◌, sym, subst, arith, le_trans}
use Rattle.starlark_parse_build.specs.Operations.{Before, After}
use Rattle.starlark_parse_cursor.specs.Reading.{at, begin_at}
use Rattle.starlark_parse_cursor.proofs.Paths.{exits}
use Rattle.starlark_parse.specs.Expr.Operating.{HasRead.nothing_read}
use Rattle.starlark_parse.proofs.ExprLemmas.OperationLemmas.{each_nothing}
use Rattle.starlark_parse.proofs.ExprLemmas.Operators.{nothing_yet, nots_taken, nots_want, nots_before, nots_after, operand_fails}
use Rattle.starlark_parse.proofs.expr.binary.negated_operations.Goals as goal

pub returns-in_err-take_nots-clause-parses : goal.returns-in_err-take_nots-clause-parses
returns-in_err-take_nots-clause-parses g c = exits _ _ _ _ _ _ _ c.from_residual.ensures.1
    (nots_want (nothing_yet _ c.new-waiting.ensures.means) c.in_err-take_nots.ensures.takes)

pub returns-in_err-operand-clause-parses : goal.returns-in_err-operand-clause-parses
returns-in_err-operand-clause-parses g c =
    exits _ _ _ _ _ _ _ c.from_residual-in_err-operand.ensures.1
    (operand_fails (nots_taken (nothing_yet _ c.new-waiting.ensures.means) c.in_ok-take_nots.ensures.takes) c.in_err-operand.ensures.parses)

pub operations-requires-clause-before : goal.operations-requires-clause-before
operations-requires-clause-before g c =
    nots_before c.in_ok-take_nots.ensures.takes (subst (λ w. Before c.args.cursor.now.end.byte w) (sym c.new-waiting.ensures.means)
    (each_nothing (λ b. b ≤ c.args.cursor.now.end.byte)))
    c.requires.ready.later c.in_ok-take_nots.ensures.later c.in_ok-take_nots.ensures.moves.ready.later
    (le_trans c.in_ok-operand.ensures.inside.0 c.in_ok-operand.operand.tree.value.span.ordered)

pub returns-clause-parses : goal.returns-clause-parses
returns-clause-parses g c =
    c.operations.ensures.parses _ record {
      waited = _;
      before = _;
      due = _;
      begin = _;
      reads = nothing_read c.new-waiting.ensures.means;
      nots = c.in_ok-take_nots.ensures.takes;
      operand = c.in_ok-operand.ensures.parses;
    }

pub returns-clause-inside : goal.returns-clause-inside
returns-clause-inside g c =
    c.operations.ensures.inside (begin_at (at c.args.cursor.now))
    (nots_after c.in_ok-take_nots.ensures.takes (subst (λ w. After (begin_at (at c.args.cursor.now)) w) (sym c.new-waiting.ensures.means)
    (each_nothing (λ b. begin_at (at c.args.cursor.now) ≤ b))) (omega (arith)))
    (omega (arith, c.in_ok-take_nots.ensures.later, c.in_ok-operand.ensures.inside.0))
