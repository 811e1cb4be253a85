use Rattle.starlark_uniplate.proofs.Turns.{item_ends, item_kept, items_done}
use Rattle.starlark_uniplate.proofs.uniplate.clause.walk_clauses.Goals as goal

pub returns-in_err-walk_clause : goal.returns-in_err-walk_clause
returns-in_err-walk_clause g c =
    item_ends c.loop-clause.invariant c.clause-item.result c.loop-clause-test.true c.clause-item.is c.in_err-walk_clause.was c.from_residual.ensures.1
    c.walk_clause.ensures

pub loop-clause-preserved : goal.loop-clause-preserved
loop-clause-preserved g c =
    item_kept c.loop-clause.invariant c.clause-item.result c.loop-clause-test.true c.clause-item.is c.in_ok-walk_clause.was c.walk_clause.ensures

pub returns : goal.returns
returns g c = items_done c.loop-clause.invariant c.loop-clause-test.false
