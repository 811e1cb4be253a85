use Rattle.std.proofs.Common.{◌+◌, map}
use Rattle.starlark_tree.specs.Ast.{statements_of}
use Rattle.starlark_tree.specs.Views.{statement_of}
use Rattle.starlark_passes.proofs.OutlineLemmas.TopLemmas.{SoFar, top_size, tops_size}
use Rattle.starlark_passes.proofs.outline.top_level_stmts.+top.Given as goal

abbrev pub decreases-top_level_stmts_mut : goal.decreases-top_level_stmts_mut
decreases-top_level_stmts_mut g l = top_size (statement_of l.top.now)

abbrev pub decreases-all_top_mut : goal.decreases-all_top_mut
decreases-all_top_mut g l = 1 + tops_size (statements_of (map statement_of l.parts.now))

abbrev pub invariant-all_top_mut-loop-part : goal.invariant-all_top_mut-loop-part
invariant-all_top_mut-loop-part g l = SoFar statement_of g.F.FnMut l.fn.f l.fn.parts l.part-index l.f l.parts
