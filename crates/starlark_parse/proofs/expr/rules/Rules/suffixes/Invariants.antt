use Rattle.std.proofs.Common.{◌≡◌, ◌≤◌}
use Rattle.starlark_parse_held.specs.Held.{expression_of}
use Rattle.starlark_parse_cursor.specs.Reading.{At, at, left_at, Ready}
use Rattle.starlark_parse.specs.Expr.Expressions.{Extends}
use Rattle.starlark_parse.specs.Expr.Contract.{Suffixed}
use Rattle.starlark_parse.proofs.expr.rules.Rules.suffixes.Given as goal

abbrev pub invariant-suffixes : goal.invariant-suffixes
invariant-suffixes g l = record {
  same_reference : l.cursor.lexemes.ghost_name ≡ l.fn.cursor.lexemes.ghost_name;
  ready : Ready g.I.Iterator.can_next g.I.Iterator.remaining g.I.Iterator.next_gives (at l.cursor);
  fewer : left_at g.I.Iterator.remaining (at l.cursor) ≤ left_at g.I.Iterator.remaining (at l.fn.cursor);
  later : l.fn.cursor.end.byte ≤ l.cursor.end.byte;
  inside : Extends l.fn.operand l.cursor.end.byte l.suffixed;
  read : (start : At _) → Suffixed g.I.Iterator.next_gives start (at l.fn.cursor) (expression_of l.fn.operand)
      → Suffixed g.I.Iterator.next_gives start (at l.cursor) (expression_of l.suffixed);
}

abbrev pub decreases-suffixes : goal.decreases-suffixes
decreases-suffixes g l = left_at g.I.Iterator.remaining (at l.cursor)
