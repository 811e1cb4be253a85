use Rattle.std.proofs.Common.{◌+◌}
use Rattle.starlark_parse_cursor.specs.Reading.{at, left_at}
use Rattle.starlark_parse.proofs.expr.binary.+unary.Given as goal

-- a unary operator is read at the same place, and what follows it after one token
abbrev pub decreases-unary : goal.decreases-unary
decreases-unary g l = left_at g.I.Iterator.remaining (at l.cursor.now) + left_at g.I.Iterator.remaining (at l.cursor.now) + 1

abbrev pub decreases-unary_operation : goal.decreases-unary_operation
decreases-unary_operation g l = left_at g.I.Iterator.remaining (at l.cursor.now) + left_at g.I.Iterator.remaining (at l.cursor.now)
