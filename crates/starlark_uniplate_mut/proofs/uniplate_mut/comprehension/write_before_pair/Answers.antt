use Rattle.std.proofs.Common.{[], ◌∷◌}
use Rattle.starlark_uniplate_mut.proofs.Writing.{may_after}
use Rattle.starlark_uniplate_mut.proofs.uniplate_mut.comprehension.write_before_pair.Goals as goal

pub returns-clause-key : goal.returns-clause-key
returns-clause-key g c key value may is = (may_after (rw is at c.write_comprehension.ensures.calls) (key ∷ value ∷ []) may).each.0

pub returns-clause-value : goal.returns-clause-value
returns-clause-value g c key value left later may is goes =
    ((may_after (rw is at c.write_comprehension.ensures.calls) (key ∷ value ∷ []) may).each.1 later (left, goes)).0
