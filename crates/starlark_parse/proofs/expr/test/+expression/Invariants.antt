use Rattle.starlark_parse_cursor.specs.Reading.{at, left_at}
use Rattle.starlark_parse.proofs.expr.test.+expression.Given as goal

abbrev pub decreases-expression : goal.decreases-expression
decreases-expression g l = left_at g.I.Iterator.remaining (at l.cursor.now)
