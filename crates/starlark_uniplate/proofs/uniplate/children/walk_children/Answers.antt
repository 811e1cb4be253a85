use Rattle.std.proofs.Common.{◌∷◌, [], ap, sym, ◌∙◌}
use Rattle.starlark_tree.specs.Places.{children}
use Rattle.starlark_tree.specs.Views.{expression_of}
use Rattle.starlark_tree.proofs.WalkConversions.{walk_at}
use Rattle.starlark_uniplate.proofs.uniplate.children.walk_children.Goals as goal

pub returns-in-Tuple : goal.returns-in-Tuple
returns-in-Tuple g c = walk_at (ap children (sym c.in-Tuple.is)) c.walk_items.ensures

pub returns-in-Dot : goal.returns-in-Dot
returns-in-Dot g c =
    walk_at (ap (λ e. expression_of e ∷ []) c.deref.ensures ∙ ap children (sym c.in-Dot.is)) c.walk_one.ensures

pub returns-in-Call : goal.returns-in-Call
returns-in-Call g c = walk_at (ap children (sym c.in-Call.is)) c.walk_called.ensures

pub returns-in-Index2 : goal.returns-in-Index2
returns-in-Index2 g c = walk_at (ap children (sym c.in-Index2.is)) c.walk_triple.ensures

pub returns-in-Slice : goal.returns-in-Slice
returns-in-Slice g c = walk_at (ap children (sym c.in-Slice.is)) c.walk_slice.ensures

pub returns-in-Lambda : goal.returns-in-Lambda
returns-in-Lambda g c = walk_at (ap children (sym c.in-Lambda.is)) c.walk_lambda_parts.ensures

pub returns-in-Not : goal.returns-in-Not
returns-in-Not g c =
    walk_at (ap (λ e. expression_of e ∷ []) c.deref-in-Not.ensures ∙ ap children (sym c.in-Not.is)) c.walk_one-in-Not.ensures

pub returns-in-Minus : goal.returns-in-Minus
returns-in-Minus g c =
    walk_at (ap (λ e. expression_of e ∷ []) c.deref-in-Minus.ensures ∙ ap children (sym c.in-Minus.is)) c.walk_one-in-Minus.ensures

pub returns-in-Plus : goal.returns-in-Plus
returns-in-Plus g c =
    walk_at (ap (λ e. expression_of e ∷ []) c.deref-in-Plus.ensures ∙ ap children (sym c.in-Plus.is)) c.walk_one-in-Plus.ensures

pub returns-in-BitNot : goal.returns-in-BitNot
returns-in-BitNot g c =
    walk_at (ap (λ e. expression_of e ∷ []) c.deref-in-BitNot.ensures ∙ ap children (sym c.in-BitNot.is)) c.walk_one-in-BitNot.ensures

pub returns-in-List : goal.returns-in-List
returns-in-List g c = walk_at (ap children (sym c.in-List.is)) c.walk_items-in-List.ensures

pub returns-in-Dict : goal.returns-in-Dict
returns-in-Dict g c = walk_at (ap children (sym c.in-Dict.is)) c.walk_dict.ensures

pub returns-in-DictComprehension : goal.returns-in-DictComprehension
returns-in-DictComprehension g c = walk_at (ap children (sym c.in-DictComprehension.is)) c.walk_dict_comprehension.ensures
