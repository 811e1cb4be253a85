use Rattle.std.proofs.Common.{sym}
use Rattle.starlark_tree.specs.Views.{form_seen}
use Rattle.starlark_tree.proofs.WalkConversions.{walk_at}
use Rattle.starlark_uniplate.proofs.Inside.{in_form}
use Rattle.starlark_uniplate.proofs.NestedWalks.{walk_through}
use Rattle.starlark_uniplate.proofs.uniplate.inside.walk_exprs_inside.Goals as goal

pub returns : goal.returns
returns g c = walk_at (sym (in_form (form_seen c.args.stmt.now))) (walk_through c.walk_all_exprs.ensures (λ s x r u h. h))
