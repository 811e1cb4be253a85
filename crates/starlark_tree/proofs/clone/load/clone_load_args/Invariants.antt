use Rattle.std.proofs.Common.{take}
use Rattle.std.specs.List.{AllZip}
use Rattle.starlark_tree.specs.Clones.{cloning, ClonesLoadArg}
use Rattle.starlark_tree.specs.Views.{load_arg_of}
use Rattle.starlark_tree.proofs.clone.load.clone_load_args.Given as goal

abbrev pub invariant-loop-item : goal.invariant-loop-item
invariant-loop-item g l = AllZip (λ x y. ClonesLoadArg
    (cloning g.P.LoadPayload.Clone.is_clone g.P.IdentPayload.Clone.is_clone g.P.IdentAssignPayload.Clone.is_clone g.P.DefPayload.Clone.is_clone
    g.P.TypeExprPayload.Clone.is_clone) (load_arg_of x) (load_arg_of y)) (take l.item-index l.item-items) l.copies.items
