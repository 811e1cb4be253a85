use Rattle.std.proofs.Common.{◌∷◌, [], ◌++◌, ap, sym}
use Rattle.starlark_tree.specs.Places.{type_exprs}
use Rattle.starlark_tree.specs.Views.{expression_of, maybe_type_of}
use Rattle.starlark_tree.proofs.WalkConversions.{walk_at}
use Rattle.starlark_uniplate.proofs.uniplate.statement.walk_typed.Goals as goal

pub returns-in-Some : goal.returns-in-Some
returns-in-Some g c = walk_at (ap (λ o. type_exprs (maybe_type_of o) ++ expression_of c.args.value.now ∷ []) (sym c.in-Some.is)) c.walk_two.ensures

pub returns-in-None : goal.returns-in-None
returns-in-None g c = walk_at (ap (λ o. type_exprs (maybe_type_of o) ++ expression_of c.args.value.now ∷ []) (sym c.in-None.is)) c.walk_one.ensures
