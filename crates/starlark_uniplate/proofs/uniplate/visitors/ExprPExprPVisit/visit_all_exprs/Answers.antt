use Rattle.std.proofs.Common.{sym}
use Rattle.starlark_tree.specs.Views.{shape_seen}
use Rattle.starlark_tree.proofs.InsideLemmas.{below_children}
use Rattle.starlark_tree.proofs.WalkConversions.{walk_at}
use Rattle.starlark_uniplate.proofs.NestedWalks.{walk_through}
use Rattle.starlark_uniplate.proofs.uniplate.visitors.ExprPExprPVisit.visit_all_exprs.Goals as goal

pub returns : goal.returns
returns g c = walk_at (sym (below_children (shape_seen c.args.self.now))) (walk_through c.walk_children.ensures (λ s x r u h. h))
