use Rattle.std.proofs.lemmas.Result.{IfOk-weaker}
use Rattle.starlark_tree.proofs.ExactClones.{same_form}
use Rattle.starlark_tree.proofs.ast.StmtP.clone.Goals as goal

pub returns-clause-equal_if_exact : goal.returns-clause-equal_if_exact
returns-clause-equal_if_exact g c = IfOk-weaker c.clone_stmt.result _ _ (λ copy h exact. same_form _ exact _ _ h) c.clone_stmt.ensures
