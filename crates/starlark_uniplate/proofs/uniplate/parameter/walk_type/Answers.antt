use Rattle.std.proofs.Common.{◌∷◌, [], ap, sym, ◌∙◌}
use Rattle.starlark_tree.specs.Places.{type_exprs}
use Rattle.starlark_tree.specs.Views.{boxed_type_of, expression_of}
use Rattle.starlark_tree.proofs.WalkConversions.{walk_at}
use Rattle.starlark_uniplate.proofs.uniplate.parameter.walk_type.Goals as goal

pub returns-in-Some : goal.returns-in-Some
returns-in-Some g c =
    walk_at (ap (λ y. expression_of y.node.expr ∷ []) c.deref.ensures ∙ ap (λ o. type_exprs (boxed_type_of o)) (sym c.in-Some.is))
    c.walk_one.ensures
