use Rattle.std.proofs.Common.{◌≡◌, ◌≤◌, option_map, IfSome}
use Rattle.starlark_lexer.specs.declared.span.Pos.{Pos}
use Rattle.starlark_parse_held.specs.Held.{statements_in}
use Rattle.starlark_parse_cursor.specs.Reading.{at, left_at, Ready}
use Rattle.starlark_parse.proofs.StmtLemmas.Modules.{Statements}
use Rattle.starlark_parse.proofs.stmt.module.module.Given as goal

abbrev pub invariant-reading : goal.invariant-reading
invariant-reading g l = record {
  same_reference : l.cursor.lexemes.ghost_name ≡ l.fn.cursor.lexemes.ghost_name;
  ready : Ready g.I.Iterator.can_next g.I.Iterator.remaining g.I.Iterator.next_gives (at l.cursor);
  begun : IfSome l.begin (λ p. p.byte ≤ l.cursor.end.byte);
  statements : Statements g.I.Iterator.next_gives (at l.fn.cursor) (at l.cursor) (statements_in l.statements) (option_map (λ (p : Pos). p.byte) l.begin);
}

abbrev pub decreases-reading : goal.decreases-reading
decreases-reading g l = left_at g.I.Iterator.remaining (at l.cursor)
