use Rattle.std.proofs.Common.{◌≡◌, ◌≤◌, ◌<◌}
use Rattle.starlark_parse_held.specs.Held.{load_args_in}
use Rattle.starlark_parse_cursor.specs.Reading.{at, begin_at, left_at, Ready}
use Rattle.starlark_parse.proofs.StmtLemmas.Loads.{Symbolled}
use Rattle.starlark_parse.proofs.stmt.load.symbols.Given as goal

abbrev pub invariant-listing : goal.invariant-listing
invariant-listing g l = record {
  same_reference : l.cursor.lexemes.ghost_name ≡ l.fn.cursor.lexemes.ghost_name;
  ready : Ready g.I.Iterator.can_next g.I.Iterator.remaining g.I.Iterator.next_gives (at l.cursor);
  fewer : left_at g.I.Iterator.remaining (at l.cursor) < left_at g.I.Iterator.remaining (at l.fn.cursor);
  later : begin_at (at l.fn.cursor) ≤ l.cursor.end.byte;
  symbols : Symbolled g.I.Iterator.next_gives (at l.initial.cursor) (at l.cursor) (load_args_in l.symbols);
}

abbrev pub decreases-listing : goal.decreases-listing
decreases-listing g l = left_at g.I.Iterator.remaining (at l.cursor)
