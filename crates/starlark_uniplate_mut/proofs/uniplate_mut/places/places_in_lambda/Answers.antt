use Rattle.starlark_tree.proofs.Nodes.{lambda_children}
use Rattle.starlark_uniplate_mut.proofs.uniplate_mut.places.places_in_lambda.Goals as goal

pub returns : goal.returns
returns g c = lambda_children c.args.lambda.now
