use Rattle.std.proofs.Common.{[], ◌∷◌, map, refl, ap, ◌∙◌}
use Rattle.std.specs.List.{flat_map}
use Rattle.starlark_tree.specs.Places.{clause_exprs, for_exprs}
use Rattle.starlark_tree.specs.Views.{clause_seen, expression_of, for_in_of}
use Rattle.starlark_uniplate_mut.specs.Frames.{clause_frame_of, for_frame_of}
use Rattle.starlark_uniplate_mut.proofs.Writing.{both_lists, write_at}
use Rattle.starlark_uniplate_mut.proofs.Written.{list_comprehension_written}
use Rattle.starlark_uniplate_mut.proofs.uniplate_mut.node.write_comprehended_list.Goals as goal

pub returns : goal.returns
returns g c =
    list_comprehension_written c.args.value.now c.write_list_comprehension.new.value c.args.first.now c.write_list_comprehension.new.first c.args.others.now
    c.write_list_comprehension.new.others
    (write_at (both_lists (both_lists (ap (λ f. for_exprs (for_in_of f)) c.deref_mut-2.ensures.value)
    (ap (flat_map (λ k. clause_exprs (clause_seen k))) c.deref_mut-3.ensures.value)) (ap (λ z. expression_of z ∷ []) c.deref_mut.ensures.value)) refl
    c.write_list_comprehension.ensures.calls)
    (c.write_list_comprehension.ensures.first ∙ ap for_frame_of c.deref_mut-2.ensures.value)
    (c.write_list_comprehension.ensures.others ∙ ap (map clause_frame_of) c.deref_mut-3.ensures.value)
