use Rattle.std.proofs.Common.{◌∷◌, [], ◌++◌, ap, sym, ◌∙◌}
use Rattle.std.specs.List.{flat_map}
use Rattle.starlark_tree.specs.Places.{exprs_in_parameter}
use Rattle.starlark_tree.specs.Views.{expression_of}
use Rattle.starlark_tree.proofs.Nodes.{lambda_children}
use Rattle.starlark_uniplate.specs.Types.{types_in_parameter}
use Rattle.starlark_uniplate.proofs.TypesOf.{lambda_types}
use Rattle.starlark_uniplate.proofs.uniplate.listed.lambda_parameters.Goals as goal

pub returns-clause-exprs : goal.returns-clause-exprs
returns-clause-exprs g c = lambda_children c.args.lambda.now
    ∙ sym (ap (λ v. flat_map (λ p. exprs_in_parameter p.node) v ++ expression_of c.args.lambda.now.body.value ∷ []) c.deref.ensures.value)

pub returns-clause-types : goal.returns-clause-types
returns-clause-types g c = lambda_types c.args.lambda.now ∙ sym (ap (flat_map (λ p. types_in_parameter p.node)) c.deref.ensures.value)
