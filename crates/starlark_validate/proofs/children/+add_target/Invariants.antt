use Rattle.std.proofs.Common.{take, length}
use Rattle.std.specs.List.{flat_map}
use Rattle.starlark_lexer.specs.Tokens.{nowhere}
use Rattle.starlark_tree.specs.Places.{exprs_in_target}
use Rattle.starlark_tree.specs.Views.{target_seen}
use Rattle.starlark_validate.proofs.AddedExpressions.{SoFar}
use Rattle.starlark_tree.proofs.Nodes.{tuples}
use Rattle.starlark_validate.proofs.children.+add_target.Given as goal

abbrev pub decreases-add_target : goal.decreases-add_target
decreases-add_target l = length (tuples (target_seen nowhere l.target.now))

abbrev pub invariant-loop-part : goal.invariant-loop-part
invariant-loop-part l = SoFar l.fn.found.items l.found.items (flat_map (λ x. exprs_in_target x.node) (take l.part-index l.part-items))
