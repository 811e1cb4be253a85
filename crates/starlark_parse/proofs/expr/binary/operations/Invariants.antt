use Rattle.std.proofs.Common.{◌≡◌, ℕ, ◌≤◌}
use Rattle.starlark_parse_build.specs.Operations.{Before, After, stack_of}
use Rattle.starlark_parse_cursor.specs.Reading.{At, at, left_at, Ready}
use Rattle.starlark_parse.specs.Expr.Operating.{OperandRead}
use Rattle.starlark_parse.proofs.expr.binary.operations.Given as goal

abbrev pub invariant-operands : goal.invariant-operands
invariant-operands g l = record {
  same_reference : l.cursor.lexemes.ghost_name ≡ l.fn.cursor.lexemes.ghost_name;
  ready : Ready g.I.Iterator.can_next g.I.Iterator.remaining g.I.Iterator.next_gives (at l.cursor);
  fewer : left_at g.I.Iterator.remaining (at l.cursor) ≤ left_at g.I.Iterator.remaining (at l.fn.cursor);
  later : l.fn.cursor.end.byte ≤ l.cursor.end.byte;
  before : Before l.operand.tree.value.span.end.byte (stack_of l.waiting);
  ends : l.operand.tree.value.span.end.byte ≤ l.cursor.end.byte;
  after : (begin : ℕ) → After begin (stack_of l.fn.waiting) → begin ≤ l.fn.first.tree.value.span.begin.byte → After begin (stack_of l.waiting)
      × (begin ≤ l.operand.tree.value.span.begin.byte);
  read : (start : At _) → OperandRead g.I.Iterator.next_gives start (stack_of l.fn.waiting) l.fn.first (at l.fn.cursor)
      → OperandRead g.I.Iterator.next_gives start (stack_of l.waiting) l.operand (at l.cursor);
}

abbrev pub decreases-operands : goal.decreases-operands
decreases-operands g l = left_at g.I.Iterator.remaining (at l.cursor)
