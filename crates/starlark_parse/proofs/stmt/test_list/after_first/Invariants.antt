use Rattle.std.proofs.Common.{◌≡◌, ◌≤◌}
use Rattle.starlark_spec.specs.Grammar.Nonterminal.{Module, Test}
use Rattle.starlark_spec.specs.Machine.States.{Place}
use Rattle.starlark_spec.specs.Machine.States.State.{read}
use Rattle.starlark_parse_held.specs.Held.{expressions_in}
use Rattle.starlark_parse_cursor.specs.Reading.{at, begin_at, left_at, Ready}
use Rattle.starlark_parse_cursor.specs.Contract.{Found}
use Rattle.starlark_parse.specs.Expr.Expressions.{IsTest}
use Rattle.starlark_parse.proofs.StmtLemmas.TestLists.{Elements}
use Rattle.starlark_parse.proofs.stmt.test_list.after_first.Given as goal

abbrev pub invariant-listing : goal.invariant-listing
invariant-listing g l = record {
  same_reference : l.cursor.lexemes.ghost_name ≡ l.fn.cursor.lexemes.ghost_name;
  ready : Ready g.I.Iterator.can_next g.I.Iterator.remaining g.I.Iterator.next_gives (at l.cursor);
  fewer : left_at g.I.Iterator.remaining (at l.cursor) ≤ left_at g.I.Iterator.remaining (at l.fn.cursor);
  later : l.fn.cursor.end.byte ≤ l.cursor.end.byte;
  elements : (start : _) → l.begin.byte ≡ begin_at start
      → Found g.I.Iterator.next_gives (λ (p : Place Module Test). read Test p) (begin_at start) (IsTest l.fn.first) start (at l.fn.cursor)
      → Elements g.I.Iterator.next_gives start (at l.cursor) (expressions_in l.elements);
}

abbrev pub decreases-listing : goal.decreases-listing
decreases-listing g l = left_at g.I.Iterator.remaining (at l.cursor)
