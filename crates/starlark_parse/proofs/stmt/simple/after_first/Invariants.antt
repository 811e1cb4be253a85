use Rattle.std.proofs.Common.{◌≡◌, ◌≤◌, List, [], ◌∷◌, ◌++◌}
use Rattle.starlark_tree.specs.Ast.{Statement, no_payload}
use Rattle.starlark_parse_held.specs.Held.{statements_in}
use Rattle.starlark_parse_cursor.specs.Reading.{at, begin_at, left_at, Ready}
use Rattle.starlark_parse.specs.Stmt.Lines.{SmallsRead}
use Rattle.starlark_parse.proofs.stmt.simple.after_first.Given as goal

abbrev pub invariant-line : goal.invariant-line
invariant-line g l = record {
  same_reference : l.cursor.lexemes.ghost_name ≡ l.fn.cursor.lexemes.ghost_name;
  ready : Ready g.I.Iterator.can_next g.I.Iterator.remaining g.I.Iterator.next_gives (at l.cursor);
  fewer : left_at g.I.Iterator.remaining (at l.cursor) ≤ left_at g.I.Iterator.remaining (at l.fn.cursor);
  later : l.fn.cursor.end.byte ≤ l.cursor.end.byte;
  further : begin_at (at l.fn.cursor) ≤ begin_at (at l.cursor);
  around_is : (before : List (Statement no_payload)) (first : Statement no_payload) → statements_in l.fn.around ≡ before ++ first ∷ []
      → statements_in l.around ≡ before;
  smalls : (before : List (Statement no_payload)) (first : Statement no_payload) (start : _) → statements_in l.fn.around ≡ before ++ first ∷ []
      → l.begin.byte ≡ begin_at start → SmallsRead g.I.Iterator.next_gives start (at l.fn.cursor) (first ∷ [])
      → SmallsRead g.I.Iterator.next_gives start (at l.cursor) (statements_in l.statements);
}

abbrev pub decreases-line : goal.decreases-line
decreases-line g l = left_at g.I.Iterator.remaining (at l.cursor)
