use Rattle.std.proofs.Common.{◌∷◌, [], ◌++◌, ap, sym, ◌∙◌}
use Rattle.std.specs.List.{flat_map}
use Rattle.starlark_tree.specs.Places.{exprs_in_parameter}
use Rattle.starlark_tree.specs.Views.{expression_of}
use Rattle.starlark_tree.proofs.WalkConversions.{walk_at}
use Rattle.starlark_uniplate.proofs.uniplate.node.walk_lambda_parts.Goals as goal

pub returns : goal.returns
returns g c =
    walk_at (ap (λ e. flat_map (λ p. exprs_in_parameter p.node) c.lambda_parameters.result.now ++ expression_of e ∷ []) c.deref.ensures
    ∙ sym c.lambda_parameters.ensures.exprs) c.walk_lambda.ensures
