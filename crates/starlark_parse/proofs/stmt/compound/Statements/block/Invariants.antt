use Rattle.std.proofs.Common.{◌≡◌, ◌≤◌}
use Rattle.starlark_parse_held.specs.Held.{statements_in}
use Rattle.starlark_parse_cursor.specs.Reading.{at, left_at, Ready}
use Rattle.starlark_parse.specs.Stmt.Statements.{Begun}
use Rattle.starlark_parse.proofs.stmt.compound.Statements.block.Given as goal

abbrev pub invariant-reading : goal.invariant-reading
invariant-reading g l = record {
  same_reference : l.cursor.lexemes.ghost_name ≡ l.fn.cursor.lexemes.ghost_name;
  ready : Ready g.I.Iterator.can_next g.I.Iterator.remaining g.I.Iterator.next_gives (at l.cursor);
  fewer : left_at g.I.Iterator.remaining (at l.cursor) ≤ left_at g.I.Iterator.remaining (at l.fn.cursor);
  later : l.fn.cursor.end.byte ≤ l.cursor.end.byte;
  begins : l.begin.byte ≤ l.cursor.end.byte;
  begun : Begun g.I.Iterator.next_gives (at l.fn.cursor) (at l.cursor) l.begin.byte (statements_in l.statements);
}

abbrev pub decreases-reading : goal.decreases-reading
decreases-reading g l = left_at g.I.Iterator.remaining (at l.cursor)
