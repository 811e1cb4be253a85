use Rattle.std.proofs.Common.{ap, sym}
use Rattle.starlark_tree.specs.Views.{maybe_type_of}
use Rattle.starlark_tree.proofs.WalkConversions.{walk_at}
use Rattle.starlark_uniplate.specs.Types.{types_of}
use Rattle.starlark_uniplate.proofs.uniplate.types.walk_assigned_type.Goals as goal

pub returns-in-Some : goal.returns-in-Some
returns-in-Some g c = walk_at (ap (λ o. types_of (maybe_type_of o)) (sym c.in-Some.is)) c.walk_type.ensures
