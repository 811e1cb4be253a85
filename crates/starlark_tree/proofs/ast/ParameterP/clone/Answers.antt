use Rattle.std.proofs.lemmas.Result.{IfOk-weaker}
use Rattle.starlark_tree.proofs.ExactClones.{same_parameter}
use Rattle.starlark_tree.proofs.ast.ParameterP.clone.Goals as goal

pub returns-clause-equal_if_exact : goal.returns-clause-equal_if_exact
returns-clause-equal_if_exact g c = IfOk-weaker c.clone_parameter.result _ _ (λ copy h exact at. same_parameter _ exact _ _ (h at)) c.clone_parameter.ensures
