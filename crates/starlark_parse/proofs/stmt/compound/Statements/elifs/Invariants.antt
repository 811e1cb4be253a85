use Rattle.std.proofs.Common.{◌≡◌, ◌≤◌, map}
use Rattle.std.specs.List.{All}
use Rattle.starlark_parse_cursor.specs.Reading.{at, left_at, Ready}
use Rattle.starlark_parse.specs.Stmt.Statements.{branch_seen}
use Rattle.starlark_parse.proofs.StmtLemmas.Branches.{Branched}
use Rattle.starlark_parse.proofs.stmt.compound.Statements.elifs.Given as goal

abbrev pub invariant-reading : goal.invariant-reading
invariant-reading g l = record {
  same_reference : l.cursor.lexemes.ghost_name ≡ l.fn.cursor.lexemes.ghost_name;
  ready : Ready g.I.Iterator.can_next g.I.Iterator.remaining g.I.Iterator.next_gives (at l.cursor);
  fewer : left_at g.I.Iterator.remaining (at l.cursor) ≤ left_at g.I.Iterator.remaining (at l.fn.cursor);
  later : l.fn.cursor.end.byte ≤ l.cursor.end.byte;
  begins : All (λ b. b.begin.byte ≤ l.cursor.end.byte) l.branches.items;
  branched : Branched g.I.Iterator.next_gives (at l.fn.cursor) (at l.cursor) (map branch_seen l.branches.items);
}

abbrev pub decreases-reading : goal.decreases-reading
decreases-reading g l = left_at g.I.Iterator.remaining (at l.cursor)
