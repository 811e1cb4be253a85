use Rattle.std.proofs.Common.{◌≡◌, ◌≤◌}
use Rattle.starlark_parse_build.specs.Operations.{stack_of}
use Rattle.starlark_parse_cursor.specs.Reading.{at, begin_at, left_at, Ready}
use Rattle.starlark_parse.proofs.ExprLemmas.Operators.{NotsRead}
use Rattle.starlark_parse.proofs.expr.binary.take_nots.Given as goal

abbrev pub invariant-negating : goal.invariant-negating
invariant-negating g l = record {
  same_reference : l.cursor.lexemes.ghost_name ≡ l.fn.cursor.lexemes.ghost_name;
  ready : Ready g.I.Iterator.can_next g.I.Iterator.remaining g.I.Iterator.next_gives (at l.cursor);
  fewer : left_at g.I.Iterator.remaining (at l.cursor) ≤ left_at g.I.Iterator.remaining (at l.fn.cursor);
  later : begin_at (at l.fn.cursor) ≤ begin_at (at l.cursor);
  ends : l.fn.cursor.end.byte ≤ l.cursor.end.byte;
  nots : NotsRead g.I.Iterator.next_gives (stack_of l.fn.waiting) (at l.fn.cursor) (stack_of l.waiting) (at l.cursor);
}

abbrev pub decreases-negating : goal.decreases-negating
decreases-negating g l = left_at g.I.Iterator.remaining (at l.cursor)
