use Rattle.std.proofs.Common.{◌∷◌, [], ap, sym, ◌∙◌}
use Rattle.starlark_tree.specs.Views.{boxed_type_of}
use Rattle.starlark_tree.proofs.WalkConversions.{walk_at}
use Rattle.starlark_uniplate.specs.Types.{type_seen, types_of}
use Rattle.starlark_uniplate.proofs.uniplate.types.walk_boxed_type.Goals as goal

pub returns-in-Some : goal.returns-in-Some
returns-in-Some g c =
    walk_at (ap (λ y. type_seen y ∷ []) c.deref.ensures ∙ ap (λ o. types_of (boxed_type_of o)) (sym c.in-Some.is)) c.walk_type.ensures
