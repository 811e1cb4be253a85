use Rattle.std.proofs.Common.{sym}
use Rattle.starlark_tree.specs.Views.{form_seen}
use Rattle.starlark_tree.proofs.WalkConversions.{walk_at}
use Rattle.starlark_uniplate.proofs.Inside.{below_own}
use Rattle.starlark_uniplate.proofs.NestedWalks.{walk_through}
use Rattle.starlark_uniplate.proofs.uniplate.visitors.StmtPStmtPVisitAll.visit_all_stmts.Goals as goal

pub returns : goal.returns
returns g c = walk_at (sym (below_own (form_seen c.args.self.now))) (walk_through c.walk_stmts.ensures (λ s x r u h. h))
