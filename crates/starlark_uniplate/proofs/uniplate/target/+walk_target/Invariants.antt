use Rattle.std.proofs.Common.{take, length, Ok}
use Rattle.std.specs.List.{flat_map}
use Rattle.starlark_lexer.specs.Tokens.{nowhere}
use Rattle.starlark_tree.specs.Places.{exprs_in_target}
use Rattle.starlark_tree.specs.Views.{target_seen}
use Rattle.starlark_tree.specs.Walks.{WalkBy}
use Rattle.starlark_tree.proofs.Nodes.{tuples}
use Rattle.starlark_uniplate.proofs.uniplate.target.+walk_target.Given as goal

abbrev pub decreases-walk_target : goal.decreases-walk_target
decreases-walk_target g l = length (tuples (target_seen nowhere l.target.now))

abbrev pub invariant-loop-part : goal.invariant-loop-part
invariant-loop-part g l = WalkBy g.G.AtExpr.calls l.fn.state (flat_map (λ x. exprs_in_target x.node) (take l.part-index l.part-items)) (Ok tt) l.state
