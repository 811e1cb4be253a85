use Rattle.starlark_tree.specs.Clones.{cloning}
use Rattle.starlark_tree.proofs.Clones.{parameters_cloned}
use Rattle.starlark_tree.proofs.clone.node.lambda_like.Goals as goal

pub returns-in-Ok : goal.returns-in-Ok
returns-in-Ok g c =
    let params = rw c.in-Ok.ensures.first at c.both.ensures.first in
    let body = rw c.in-Ok.ensures.first at c.both.ensures.second in
    rw (params, body) (λ all same. (
      parameters_cloned (cloning g.P.LoadPayload.Clone.is_clone g.P.IdentPayload.Clone.is_clone g.P.IdentAssignPayload.Clone.is_clone
          g.P.DefPayload.Clone.is_clone g.P.TypeExprPayload.Clone.is_clone) _ _ all,
      same,
      (rw c.in-Ok.ensures.second at c.clone.ensures).cases,
    ))
