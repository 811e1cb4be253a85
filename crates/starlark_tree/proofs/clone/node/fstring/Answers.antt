use Rattle.std.proofs.Common.{refl}
use Rattle.starlark_tree.specs.Clones.{cloning}
use Rattle.starlark_tree.proofs.Clones.{expressions_cloned}
use Rattle.starlark_tree.proofs.clone.node.fstring.Goals as goal

pub returns-in-Ok : goal.returns-in-Ok
returns-in-Ok g c =
    rw c.in-Ok.ensures.second (λ all. (
      refl,
      rw c.in-Ok.ensures.first at c.clone_text.ensures,
      expressions_cloned (cloning g.P.LoadPayload.Clone.is_clone g.P.IdentPayload.Clone.is_clone g.P.IdentAssignPayload.Clone.is_clone
          g.P.DefPayload.Clone.is_clone g.P.TypeExprPayload.Clone.is_clone) _ _ all,
    ))
