use Rattle.starlark_uniplate_mut.proofs.Writing.{writes_of}
use Rattle.starlark_uniplate_mut.proofs.uniplate_mut.visitors.ParameterPVisitExprMut.visit_expr_mut.Goals as goal

pub returns : goal.returns
returns g c = record { calls = writes_of (rw c.in-Ok.is at c.write_parameter.ensures.calls); rest = c.write_parameter.ensures.rest }
