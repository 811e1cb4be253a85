use Rattle.starlark_depth.proofs.Orders.{guard_in_order}
use Rattle.starlark_module.proofs.module.from_guard.Goals as goal

pub from_lexemes-requires-clause-can : goal.from_lexemes-requires-clause-can
from_lexemes-requires-clause-can g c = λ running. (c.requires.can, c.requires.ordered)

pub from_lexemes-requires-clause-ordered : goal.from_lexemes-requires-clause-ordered
from_lexemes-requires-clause-ordered g c = guard_in_order g.I.Iterator.next_gives c.args.guard.now 0 c.requires.ordered
