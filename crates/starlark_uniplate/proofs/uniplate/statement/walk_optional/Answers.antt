use Rattle.std.proofs.Common.{ap, sym}
use Rattle.std.specs.Prelude.{option_map, option_to_list}
use Rattle.starlark_tree.specs.Views.{expression_of}
use Rattle.starlark_tree.proofs.WalkConversions.{walk_at}
use Rattle.starlark_uniplate.proofs.uniplate.statement.walk_optional.Goals as goal

pub returns-in-Some : goal.returns-in-Some
returns-in-Some g c = walk_at (ap (λ o. option_to_list (option_map expression_of o)) (sym c.in-Some.is)) c.walk_one.ensures
