use Rattle.std.proofs.Common.{◌≡◌, ◌≤◌}
use Rattle.starlark_parse_build.specs.Suffixes.{format_of}
use Rattle.starlark_parse_cursor.specs.Reading.{at, begin_at, left_at, Ready}
use Rattle.starlark_parse.proofs.ExprLemmas.FStrings.{ReadsPieces}
use Rattle.starlark_parse.proofs.expr.rules.Rules.pieces.Given as goal

abbrev pub invariant-reading : goal.invariant-reading
invariant-reading g l = record {
  same_reference : l.cursor.lexemes.ghost_name ≡ l.fn.cursor.lexemes.ghost_name;
  ready : Ready g.I.Iterator.can_next g.I.Iterator.remaining g.I.Iterator.next_gives (at l.cursor);
  fewer : left_at g.I.Iterator.remaining (at l.cursor) ≤ left_at g.I.Iterator.remaining (at l.fn.cursor);
  later : l.fn.cursor.end.byte ≤ l.cursor.end.byte;
  onward : begin_at (at l.fn.cursor) ≤ begin_at (at l.cursor);
  pieces : ReadsPieces g.I.Iterator.next_gives (format_of l.format) (at l.fn.cursor) (at l.cursor);
}

abbrev pub decreases-reading : goal.decreases-reading
decreases-reading g l = left_at g.I.Iterator.remaining (at l.cursor)
