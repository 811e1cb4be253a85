use Rattle.std.proofs.Common.{◌≤◌}
use Rattle.starlark_parse_cursor.specs.Order.{ComesInOrder}
use Rattle.starlark_parse_cursor.specs.Reading.{Pulls}
use Rattle.starlark_parse_cursor.proofs.cursor.next_item.Given as goal

abbrev pub invariant-pulling : goal.invariant-pulling
invariant-pulling g l =
    (goal.iterator-pulling g).can_next l.lexemes × (goal.iterator-pulling g).is_finite l.lexemes
    × ((goal.iterator-pulling g).remaining l.lexemes ≤ (goal.iterator-pulling g).remaining l.initial.lexemes)
    × ComesInOrder (goal.iterator-pulling g).next_gives l.lexemes l.fn.from.byte
    × ((k : _) (t : _) → Pulls (goal.iterator-pulling g).next_gives l.lexemes k t → Pulls (goal.iterator-pulling g).next_gives l.initial.lexemes k t)
