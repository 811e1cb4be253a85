use Rattle.starlark_uniplate_mut.proofs.uniplate_mut.visitors.StmtPStmtPVisitMut.visit_children_mut.Goals as goal

pub returns-clause-calls : goal.returns-clause-calls
returns-clause-calls g c = rw c.in-Ok.is at c.visit_children_err_mut.ensures.calls

pub returns-clause-rest : goal.returns-clause-rest
returns-clause-rest g c = c.visit_children_err_mut.ensures.rest
