use Rattle.std.proofs.Common.{◌≡◌, ◌<◌, [], ◌∷◌, length, get_or, map, take, Ok}
use Rattle.starlark_tree.specs.Views.{statement_of}
use Rattle.starlark_tree.specs.Walks.{MayWalkBy, WalkBy}
use Rattle.starlark_uniplate.proofs.uniplate.block.walk_block.Given as goal

-- the next statement may be visited, so that search finds what its visit requires
abbrev pub invariant-loop-part : goal.invariant-loop-part
invariant-loop-part g l = record {
  walked : WalkBy g.G.AtStmt.calls l.fn.state (map statement_of (take l.part-index l.part-items)) (Ok tt) l.state;
  next : (x : _) → x ≡ get_or l.part-items l.part-index x → l.part-index < length l.part-items → MayWalkBy g.G.AtStmt.calls l.state (statement_of x ∷ []);
}
