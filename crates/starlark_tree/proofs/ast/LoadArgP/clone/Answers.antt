use Rattle.std.proofs.lemmas.Result.{IfOk-weaker}
use Rattle.starlark_tree.proofs.ExactClones.{same_load_arg}
use Rattle.starlark_tree.proofs.ast.LoadArgP.clone.Goals as goal

pub returns-clause-equal_if_exact : goal.returns-clause-equal_if_exact
returns-clause-equal_if_exact g c = IfOk-weaker c.clone_load_arg.result _ _ (λ copy h exact. same_load_arg _ exact _ _ h) c.clone_load_arg.ensures
