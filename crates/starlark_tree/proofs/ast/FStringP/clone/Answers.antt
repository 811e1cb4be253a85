use Rattle.std.proofs.lemmas.List.Elements.{same_from_all_zip}
use Rattle.std.proofs.lemmas.Result.{IfOk-weaker}
use Rattle.starlark_tree.proofs.Clones.{zip_mapped}
use Rattle.starlark_tree.proofs.ExactClones.{same_expression}
use Rattle.starlark_tree.specs.Clones.{ClonesExpression, cloning}
use Rattle.starlark_tree.specs.Views.{expression_of}
use Rattle.starlark_tree.proofs.ast.FStringP.clone.Goals as goal

pub returns-clause-equal_if_exact : goal.returns-clause-equal_if_exact
returns-clause-equal_if_exact g c =
    let R = cloning g.P.LoadPayload.Clone.is_clone g.P.IdentPayload.Clone.is_clone g.P.IdentAssignPayload.Clone.is_clone g.P.DefPayload.Clone.is_clone
    g.P.TypeExprPayload.Clone.is_clone in
    IfOk-weaker c.clone_format.result _ _ (λ copy h exact. same_from_all_zip (ClonesExpression R) _ _ (zip_mapped (ClonesExpression R) expression_of _ _ h)
    (same_expression R exact)) c.clone_format.ensures.expressions
