use Rattle.std.proofs.Common.{◌≡◌, ◌≤◌}
use Rattle.starlark_parse_held.specs.Held.{arguments_in}
use Rattle.starlark_spec.specs.Grammar.ElementKind.{arguments}
use Rattle.starlark_parse_cursor.specs.Reading.{at, left_at, Ready}
use Rattle.starlark_parse.proofs.ExprLemmas.Lists.{Added}
use Rattle.starlark_parse.proofs.expr.rules.Rules.arguments.Given as goal

abbrev pub invariant-listing : goal.invariant-listing
invariant-listing g l = record {
  same_reference : l.cursor.lexemes.ghost_name ≡ l.fn.cursor.lexemes.ghost_name;
  ready : Ready g.I.Iterator.can_next g.I.Iterator.remaining g.I.Iterator.next_gives (at l.cursor);
  fewer : left_at g.I.Iterator.remaining (at l.cursor) ≤ left_at g.I.Iterator.remaining (at l.fn.cursor);
  later : l.fn.cursor.end.byte ≤ l.cursor.end.byte;
  added : Added g.I.Iterator.next_gives arguments (at l.fn.cursor) (at l.cursor) (arguments_in l.fn.arguments) (arguments_in l.arguments);
}

abbrev pub decreases-listing : goal.decreases-listing
decreases-listing g l = left_at g.I.Iterator.remaining (at l.cursor)
