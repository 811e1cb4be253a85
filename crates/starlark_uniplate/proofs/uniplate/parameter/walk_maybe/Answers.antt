use Rattle.std.proofs.Common.{◌∷◌, [], ap, sym, ◌∙◌}
use Rattle.starlark_tree.specs.Places.{maybe_exprs}
use Rattle.starlark_tree.specs.Views.{expression_of, maybe_of}
use Rattle.starlark_tree.proofs.WalkConversions.{walk_at}
use Rattle.starlark_uniplate.proofs.uniplate.parameter.walk_maybe.Goals as goal

pub returns-in-Some : goal.returns-in-Some
returns-in-Some g c =
    walk_at (ap (λ e. expression_of e ∷ []) c.deref.ensures ∙ ap (λ o. maybe_exprs (maybe_of o)) (sym c.in-Some.is)) c.walk_one.ensures
