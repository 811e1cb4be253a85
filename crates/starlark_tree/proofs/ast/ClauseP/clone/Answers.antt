use Rattle.std.proofs.lemmas.Result.{IfOk-weaker}
use Rattle.starlark_tree.proofs.ExactClones.{same_clause}
use Rattle.starlark_tree.proofs.ast.ClauseP.clone.Goals as goal

pub returns-clause-equal_if_exact : goal.returns-clause-equal_if_exact
returns-clause-equal_if_exact g c = IfOk-weaker c.clone_clause.result _ _ (λ copy h exact. same_clause _ exact _ _ h) c.clone_clause.ensures
