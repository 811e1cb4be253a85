use Rattle.starlark_tree.specs.Clones.{cloning}
use Rattle.starlark_tree.proofs.Clones.{clones_all_parameters}
use Rattle.starlark_tree.proofs.clone.stmt.def_like.Goals as goal

pub returns-in-Ok : goal.returns-in-Ok
returns-in-Ok g c =
    let signature = rw c.in-Ok.ensures.first at c.both.ensures.first in
    let rest = rw c.in-Ok.ensures.first at c.both.ensures.second in
    let name = rw signature at c.both-signature.ensures.first in
    let params = rw signature at c.both-signature.ensures.second in
    let type = rw rest at c.both-rest.ensures.first in
    let payload = rw rest at c.both-rest.ensures.second in
    rw c.in-Ok.ensures.second
    (λ same. (
      rw name at c.clone_assign_ident.ensures.word,
      rw name at c.clone_assign_ident.ensures.payload,
      clones_all_parameters (cloning g.P.LoadPayload.Clone.is_clone g.P.IdentPayload.Clone.is_clone g.P.IdentAssignPayload.Clone.is_clone
          g.P.DefPayload.Clone.is_clone g.P.TypeExprPayload.Clone.is_clone) _ _ (rw params at c.clone_parameters.ensures),
      rw type at c.clone_maybe_type.ensures,
      same,
      (rw payload at c.clone.ensures).cases,
    ))
