use Rattle.std.proofs.lemmas.Result.{IfOk-weaker}
use Rattle.starlark_tree.proofs.ExactClones.{same_shape}
use Rattle.starlark_tree.proofs.ast.LambdaP.clone.Goals as goal

pub returns-clause-equal_if_exact : goal.returns-clause-equal_if_exact
returns-clause-equal_if_exact g c = IfOk-weaker c.clone_lambda.result _ _ (λ copy h exact. same_shape _ exact _ _ h) c.clone_lambda.ensures
