use Rattle.std.proofs.lemmas.List.Elements.{same_from_all_zip}
use Rattle.starlark_tree.proofs.Clones.{zip_mapped}
use Rattle.starlark_tree.proofs.ExactClones.{same_argument}
use Rattle.starlark_tree.specs.Clones.{ClonesArgument, cloning}
use Rattle.starlark_tree.specs.Views.{argument_of}
use Rattle.starlark_tree.proofs.ast.CallArgsP.clone.Goals as goal

pub returns-clause-equal_if_exact : goal.returns-clause-equal_if_exact
returns-clause-equal_if_exact g c =
    let R = cloning g.P.LoadPayload.Clone.is_clone g.P.IdentPayload.Clone.is_clone g.P.IdentAssignPayload.Clone.is_clone g.P.DefPayload.Clone.is_clone
    g.P.TypeExprPayload.Clone.is_clone in
    λ exact. same_from_all_zip (ClonesArgument R) _ _ (zip_mapped (ClonesArgument R) argument_of _ _ c.in_ok-args.ensures) (same_argument R exact)
