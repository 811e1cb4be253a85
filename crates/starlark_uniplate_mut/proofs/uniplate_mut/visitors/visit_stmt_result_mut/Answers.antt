use Rattle.starlark_uniplate_mut.proofs.uniplate_mut.visitors.visit_stmt_result_mut.Goals as goal

pub returns : goal.returns
returns g c = record { calls = c.write_stmts.ensures.calls; rest = c.write_stmts.ensures.rest }
