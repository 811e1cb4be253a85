use Rattle.starlark_parse_cursor.specs.Reading.{at, left_at}
use Rattle.starlark_parse.proofs.stmt.compound.+statement.Given as goal

abbrev pub decreases-statement : goal.decreases-statement
decreases-statement g l = left_at g.I.Iterator.remaining (at l.cursor.now)
