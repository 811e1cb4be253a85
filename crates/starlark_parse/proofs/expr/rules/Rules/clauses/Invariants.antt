use Rattle.std.proofs.Common.{◌≡◌, ◌≤◌, ◌<◌}
use Rattle.starlark_parse_held.specs.Held.{clauses_in}
use Rattle.starlark_parse_cursor.specs.Reading.{at, begin_at, left_at, Ready}
use Rattle.starlark_parse.proofs.ExprLemmas.Comprehensions.{ClausesRead}
use Rattle.starlark_parse.proofs.expr.rules.Rules.clauses.Given as goal

abbrev pub invariant-clauses : goal.invariant-clauses
invariant-clauses g l = record {
  same_reference : l.cursor.lexemes.ghost_name ≡ l.fn.cursor.lexemes.ghost_name;
  ready : Ready g.I.Iterator.can_next g.I.Iterator.remaining g.I.Iterator.next_gives (at l.cursor);
  fewer : left_at g.I.Iterator.remaining (at l.cursor) < left_at g.I.Iterator.remaining (at l.fn.cursor);
  later : begin_at (at l.fn.cursor) ≤ l.cursor.end.byte;
  read : ClausesRead g.I.Iterator.next_gives (clauses_in l.clauses) (at l.fn.cursor) (at l.cursor);
}

abbrev pub decreases-clauses : goal.decreases-clauses
decreases-clauses g l = left_at g.I.Iterator.remaining (at l.cursor)
