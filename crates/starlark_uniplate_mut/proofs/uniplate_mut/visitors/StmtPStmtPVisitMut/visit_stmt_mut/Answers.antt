use Rattle.starlark_uniplate_mut.proofs.Writing.{writes_of}
use Rattle.starlark_uniplate_mut.proofs.uniplate_mut.visitors.StmtPStmtPVisitMut.visit_stmt_mut.Goals as goal

pub returns-clause-calls : goal.returns-clause-calls
returns-clause-calls g c = writes_of (rw c.in-Ok.is at c.write_stmts.ensures.calls)
