use Rattle.starlark_validate.proofs.statements.refuse_at_top.Goals as goal
use Rattle.starlark_validate.proofs.statements.refuse_at_top.Goals.{then-around, else-around}

pub returns : goal.returns
returns c = elim c.if-around.branch [
  | then-around w ↦ rw (w.if-around.true, ← w.is_misplaced-is) c.refuse_misplaced.ensures
  | else-around w ↦ rw w.if-around.false (rw (w.is_misplaced-is, w.if-around.false) at c.refuse_misplaced.ensures)
]
