use Rattle.starlark_tree.specs.Clones.{ClonesArgument, ClonesShape, cloning}
use Rattle.starlark_tree.specs.Parts.{argument_expression}
use Rattle.starlark_tree.specs.Views.{argument_of, argument_seen, shape_seen}
use Rattle.starlark_tree.proofs.Copies.{pushed_alike}
use Rattle.starlark_tree.proofs.clone.node.push_argument.Goals as goal

pub returns : goal.returns
returns g c =
    let R = (cloning g.P.LoadPayload.Clone.is_clone g.P.IdentPayload.Clone.is_clone g.P.IdentAssignPayload.Clone.is_clone g.P.DefPayload.Clone.is_clone
    g.P.TypeExprPayload.Clone.is_clone) in
    pushed_alike (λ x y. ClonesArgument R (argument_of x) (argument_of y))
    (λ at n. ClonesArgument R (argument_seen at c.args.original.now.node) (argument_seen at n))
    (λ v. ClonesShape R (shape_seen (argument_expression c.args.original.now.node).node) (shape_seen v)) c.args.original.now _ _ _ _
    c.push_spanned.ensures c.argument_like.ensures (λ n h. h)
