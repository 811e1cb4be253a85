use Rattle.std.proofs.Common.{◌≡◌, ◌≤◌}
use Rattle.starlark_parse_build.specs.Operations.{Before, After, stack_of}
use Rattle.starlark_parse_cursor.specs.Reading.{at, begin_at, left_at, Ready}
use Rattle.starlark_parse.proofs.ExprLemmas.Operators.{InnerDue}
use Rattle.starlark_parse.proofs.expr.binary.bit_or.Given as goal

abbrev pub invariant-operands : goal.invariant-operands
invariant-operands g l = record {
  same_reference : l.cursor.lexemes.ghost_name ≡ l.fn.cursor.lexemes.ghost_name;
  ready : Ready g.I.Iterator.can_next g.I.Iterator.remaining g.I.Iterator.next_gives (at l.cursor);
  fewer : left_at g.I.Iterator.remaining (at l.cursor) ≤ left_at g.I.Iterator.remaining (at l.fn.cursor);
  later : begin_at (at l.fn.cursor) ≤ begin_at (at l.cursor);
  before : Before l.cursor.end.byte (stack_of l.waiting);
  after : After (begin_at (at l.fn.cursor)) (stack_of l.waiting);
  operands : InnerDue g.I.Iterator.next_gives (stack_of l.waiting) (at l.fn.cursor) (at l.cursor);
}

abbrev pub decreases-operands : goal.decreases-operands
decreases-operands g l = left_at g.I.Iterator.remaining (at l.cursor)
