use Rattle.starlark_uniplate_mut.proofs.uniplate_mut.visitors.ExprPExprPVisitMut.visit_expr_err_mut.Goals as goal

pub returns : goal.returns
returns g c = record { calls = c.write_children.ensures.calls; rest = c.write_children.ensures.rest }
