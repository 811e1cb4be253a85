use Rattle.starlark_uniplate_mut.proofs.uniplate_mut.visitors.AssignTargetPAssignTargetPVisitMut.visit_lvalue_err_mut.Goals as goal

pub returns : goal.returns
returns g c = record { calls = c.write_lvalues.ensures.calls; rest = c.write_lvalues.ensures.rest }
