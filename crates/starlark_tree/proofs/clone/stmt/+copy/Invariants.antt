use Rattle.std.proofs.Common.{take}
use Rattle.std.specs.List.{AllZip}
use Rattle.starlark_tree.specs.Clones.{cloning, ClonesStatement}
use Rattle.starlark_tree.specs.Views.{statement_of}
use Rattle.starlark_tree.proofs.clone.stmt.+copy.Given as goal

abbrev pub invariant-clone_stmts-loop-item : goal.invariant-clone_stmts-loop-item
invariant-clone_stmts-loop-item g l = AllZip (λ x y. ClonesStatement
    (cloning g.P.LoadPayload.Clone.is_clone g.P.IdentPayload.Clone.is_clone g.P.IdentAssignPayload.Clone.is_clone g.P.DefPayload.Clone.is_clone
    g.P.TypeExprPayload.Clone.is_clone) (statement_of x) (statement_of y)) (take l.item-index l.item-items) l.copies.items
