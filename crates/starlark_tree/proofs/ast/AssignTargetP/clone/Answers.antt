use Rattle.std.proofs.lemmas.Result.{IfOk-weaker}
use Rattle.starlark_tree.proofs.ExactClones.{same_target}
use Rattle.starlark_tree.proofs.ast.AssignTargetP.clone.Goals as goal

pub returns-clause-equal_if_exact : goal.returns-clause-equal_if_exact
returns-clause-equal_if_exact g c = IfOk-weaker c.clone_target.result _ _ (λ copy h exact at. same_target _ exact _ _ (h at)) c.clone_target.ensures
