use Rattle.starlark_tree.proofs.Copies.{follow}
use Rattle.starlark_tree.proofs.clone.expr.clone_lambda.Goals as goal

pub returns : goal.returns
returns g c =
    follow _ _ _ c.clone_parameters-params.result c.clone_boxed.result _ c.lambda_like.ensures c.clone_parameters-params.ensures c.clone_boxed.ensures
