use Rattle.std.proofs.lemmas.Result.{IfOk-weaker}
use Rattle.starlark_tree.proofs.ExactClones.{same_for}
use Rattle.starlark_tree.proofs.ast.ForClauseP.clone.Goals as goal

pub returns-clause-equal_if_exact : goal.returns-clause-equal_if_exact
returns-clause-equal_if_exact g c = IfOk-weaker c.clone_for.result _ _ (λ copy h exact. same_for _ exact _ _ h) c.clone_for.ensures
