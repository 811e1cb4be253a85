use Rattle.std.proofs.Common.{sym}
use Rattle.starlark_tree.specs.Views.{form_seen}
use Rattle.starlark_tree.proofs.WalkConversions.{walk_at}
use Rattle.starlark_uniplate.proofs.Identifiers.{idents_among}
use Rattle.starlark_uniplate.proofs.NestedWalks.{walk_through}
use Rattle.starlark_uniplate.proofs.uniplate.visitors.StmtPStmtPVisit.visit_ident.Goals as goal

pub returns : goal.returns
returns g c = walk_at (sym (idents_among (form_seen c.args.self.now))) (walk_through c.walk_exprs_inside.ensures (λ s x r u h. h))
